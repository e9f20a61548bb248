-- Stations that have done nothing yet.
-- Assumes nothing.
use Rattle.std.proofs.Common.{◌≡◌, ℕ, zero, suc, ◌+◌, ◌<◌, ◌≤◌, false, ◌⊎◌, List, [], ◌∷◌, ◌++◌, map, length, get_or, vec_items, replicate, None, fold, sym, refl, ap, ◌∙◌, subst, ap₂, inl, inr, arith, length-append}
use lib.ListN.{length-map, get_or-append}
use lib.Seq.{get_or_at}
use Rattle.asking.specs.Minds.{empty}
use Rattle.network.proofs.Lists.{slice_index_same}
use Rattle.network.specs.Falls.{Reached, none, site}
use Rattle.network.specs.Worlds.{beginning}
use Rattle.recovery.specs.Runs.{Did, nothing}
use Rattle.rehearsal.proofs.Filed.{filed_with}
use Rattle.rehearsal.specs.Lives.{Filed, Lives, shown, journal_of, mind_in, nowhere}
use Rattle.rehearsal.specs.declared.post.Post.{Post}
use Rattle.state.specs.Changes.{apply}
use Rattle.state.specs.States.{begun}
use Rattle.state.specs.declared.record.Record.{Record}
use Rattle.std.proofs.lemmas.Bool.{cases_lt}
use Rattle.std.proofs.lemmas.List.{map_push, replicate_more}
use Rattle.std.proofs.lemmas.List.Elements.{All-push}
use Rattle.std.specs.List.{All}
use Rattle.timetable.specs.Rows.{Table}

-- so many stations of n that are to be
pub record Begun (n : ℕ) (ps : List Post) : Type 0 where
  pub journals : map journal_of ps ≡ replicate (length ps) []
  pub states : (k : ℕ) → k < length ps → get_or (map shown ps) k nowhere ≡ begun n k
  pub minds : map mind_in ps ≡ replicate (length ps) empty
  pub cuts : map (λ p. p.cut) ps ≡ replicate (length ps) None
  pub filed : All Filed ps

push_same : {A : Type 0} (f : Post → A) (d : A) (ps : List Post) (p : Post) → map f ps ≡ replicate (length ps) d → f p ≡ d → map f (ps ++ p ∷ []) ≡ replicate (length (ps ++ p ∷ [])) d
push_same f d ps p e h = map_push f ps p ∙ ap₂ (λ xs x. xs ++ x ∷ []) e h ∙ replicate_more (length ps) d ∙ ap (λ (m : ℕ). replicate m d) (sym (length-append ps (p ∷ [])))

begun_push : (n : ℕ) (ps : List Post) (p : Post) → Begun n ps → shown p ≡ begun n (length ps) → vec_items p.file ≡ [] → mind_in p ≡ empty → p.cut ≡ None → Begun n (ps ++ p ∷ [])
begun_push n ps p o e f m c =
    let (j, z) = filed_with p [] tt f in
    record {
      journals = push_same journal_of [] ps p o.journals j;
      states = λ k l. ap (λ xs. get_or xs k nowhere) (map_push shown ps p) ∙ go k (cases_lt k (length ps)) (omega (arith, l, length-append ps (p ∷ [])));
      minds = push_same mind_in empty ps p o.minds m;
      cuts = push_same (λ q. q.cut) None ps p o.cuts c;
      filed = All-push Filed ps p o.filed z;
    }
  where
    go : (k : ℕ) → (k < length ps) ⊎ (length ps ≤ k) → k ≤ length ps → get_or (map shown ps ++ shown p ∷ []) k nowhere ≡ begun n k
    go k (inl l) h = get_or-append (map shown ps) (shown p ∷ []) nowhere k (omega (arith, length-map ps shown)) ∙ o.states k l
    go k (inr l) h =
        let d : k ≡ length ps = omega arith in
        get_or_at (map shown ps) (shown p) [] nowhere k (omega (arith, length-map ps shown)) ∙ e ∙ ap (begun n) (sym d)

pub begun_next : (n k : ℕ) (ps qs : List Post) (p : Post) → (length ps ≡ k) × Begun n ps → qs ≡ ps ++ p ∷ [] → shown p ≡ begun n k → vec_items p.file ≡ [] → mind_in p ≡ empty → p.cut ≡ None → (length qs ≡ k + 1) × Begun n qs
begun_next n k ps qs p (c, o) e s f m d = (omega (arith, ap length e, length-append ps (p ∷ []), c), subst (Begun n) (sym e) (begun_push n ps p o (s ∙ ap (begun n) (sym c)) f m d))

no_lengths : (n : ℕ) → map {A = List Record} length (replicate n []) ≡ replicate n 0
no_lengths zero = refl
no_lengths (suc n) = ap (λ ks. 0 ∷ ks) (no_lengths n)

pub begun_lives : (tb : Table) (n : ℕ) (ps : List Post) → length ps ≡ n → Begun n ps → Lives tb ps [] false
begun_lives tb n ps e o =
    record {
      reached = λ _. subst (λ js. Reached (length ps) tb (site (record { journals = js; said = [] }) (map length js))) (sym o.journals)
          (subst (λ ks. Reached (length ps) tb (site (beginning (length ps)) ks)) (sym (no_lengths (length ps))) none);
      faithful = λ k l. o.states k l ∙ ap (λ (m : ℕ). begun m k) (sym e) ∙ sym (ap (λ js. fold (apply tb) (begun (length ps) k) (get_or js k [])) o.journals ∙ ap (fold (apply tb) (begun (length ps) k)) (slice_index_same {A = List Record} [] (length ps) k));
      filed = o.filed;
      did = λ k l. subst (Did (length ps) k tb) (sym (ap (λ js. get_or js k []) o.journals ∙ slice_index_same {A = List Record} [] (length ps) k)) (nothing tb);
    }
