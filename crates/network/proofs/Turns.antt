-- Who is asked first.
-- Assumes nothing.
use Rattle.std.proofs.Common.{◌≡◌, ℕ, suc, ◌<◌, ◌≤◌, Bool, true, false, cond, not, eqb, ltb, ◌⊎◌, List, [], ◌∷◌, length, get_or, sym, refl, ap, subst, inl, inr, arith}
use Rattle.asking.proofs.OrderRises.{counted}
use Rattle.asking.proofs.TurnStations.{in_turn}
use Rattle.asking.specs.Events.{resolved, turned}
use Rattle.asking.specs.Minds.{Mind, first, none}
use Rattle.asking.specs.Told.{told_by}
use Rattle.asking.specs.Turns.{turns}
use Rattle.asking.specs.declared.event.Event.TheVariants.{Call}
use Rattle.giving.specs.Channels.{other}
use Rattle.giving.specs.declared.ids.StationId.{StationId}
use Rattle.ledger.specs.Decisions.{Answer, asking, decided, met}
use Rattle.ledger.specs.declared.input.Input.TheVariants as input
use Rattle.network.proofs.Alone.{Judged, closed, judges, right, wrong}
use Rattle.network.proofs.Known.{known_all}
use Rattle.network.specs.Answers.{FirstInTurn, TurnAnswer}
use Rattle.network.specs.Promises.{AsksFirst}
use Rattle.network.specs.Worlds.{state}
use Rattle.pieces.specs.declared.names.Train.{Train}
use Rattle.state.specs.States.{State, asks_left}
use Rattle.std.proofs.lemmas.Bool.{and_from, cases_eq, cases_lt, eqb-true, eq-eqb, le-ltb, lt-ltb, ne_eqb}
use Rattle.std.specs.List.{AllPairs, count_by}

-- what is counted is at some place
found : {X : Type 0} (p : X → Bool) (xs : List X) (d : X) → 1 ≤ count_by p xs → (i : ℕ) × (i < length xs) × (p (get_or xs i d) ≡ true)
found p [] d h = absurd (omega arith)
found p (x ∷ xs) d h = go (p x) refl (λ l. found p xs d l)
  where
    go : (b : Bool) → p x ≡ b → (1 ≤ count_by p xs → (i : ℕ) × (i < length xs) × (p (get_or xs i d) ≡ true)) → (i : ℕ) × (i < length (x ∷ xs)) × (p (get_or (x ∷ xs) i d) ≡ true)
    go true e more = (0, omega arith, e)
    go false e more =
        let (i, l, f) = more (omega (arith, h, counted p x xs, ap (λ b. cond {A = ℕ} b 1 0) e)) in
        (suc i, omega (arith, l), f)

once : (b : Bool) (n : ℕ) → n ≡ cond b 1 0 → 1 ≤ n → b ≡ true
once true n e h = refl
once false n e h = absurd (omega (arith, e, h))

module _ (x : State) (m : Mind) (t : Train) (many : 1 < length x.channels) where
  abbrev n : ℕ
  n = length x.channels

  abbrev row : List StationId
  row = turns m.told t x.me n

  abbrev of : ℕ → StationId → Bool
  of k j = eqb j.0 k

  abbrev Goes : StationId → StationId → Type 0
  Goes j k = ((told_by m.told t k).any < (told_by m.told t j).any) ⊎ (((told_by m.told t j).any ≡ (told_by m.told t k).any) × (j.0 < k.0))

  -- some other station
  someone : (k : ℕ) × (other x.me x.channels k ≡ true)
  someone = go (cases_eq 0 x.me)
    where
      is : (k : ℕ) → k < n → (k ≡ x.me → ⊥) → other x.me x.channels k ≡ true
      is k l d = and_from (ltb k n) (not (eqb k x.me)) (lt-ltb k n l) (ap not (ne_eqb k x.me d))

      go : (0 ≡ x.me) ⊎ (0 ≡ x.me → ⊥) → (k : ℕ) × (other x.me x.channels k ≡ true)
      go (inl e) = (1, is 1 many (λ f. omega (arith, e, f)))
      go (inr d) = (0, is 0 (omega (arith, many)) d)

  -- of a row that has each other station once and goes by what they told, the first
  begins : (ks : List StationId) → ((k : ℕ) → count_by (of k) ks ≡ cond (other x.me x.channels k) 1 0) → AllPairs Goes ks → FirstInTurn x m t (first ks)
  begins [] c p = let (k, e) = someone in absurd (omega (arith, c k, ap (λ b. cond {A = ℕ} b 1 0) e))
  begins (k ∷ ks) c p =
      record {
        there = once (other x.me x.channels k.0) (count_by (of k.0) (k ∷ ks)) (c k.0) (omega (arith, counted (of k.0) k ks, ap (λ b. cond {A = ℕ} b 1 0) (eq-eqb k.0 k.0 refl)));
        first = λ j e d.
            let here = ap (λ b. cond {A = ℕ} b 1 0) (ne_eqb k.0 j.0 (λ f. d (sym f))) in
            let (i, l, f) = found (of j.0) ks none (omega (arith, c j.0, ap (λ b. cond {A = ℕ} b 1 0) e, counted (of j.0) k ks, here)) in
            let same : get_or ks i none ≡ j = ap (λ (z : ℕ). record { 0 = z }) (eqb-true (get_or ks i none).0 j.0 f) in
            subst (Goes k) same (p 0 (suc i) none (omega arith) (omega (arith, l)));
      }

  pub first_in_turn : FirstInTurn x m t (first row)
  first_in_turn = let (c, p) = in_turn m.told t x.me n in begins row c p

pub asks_first : AsksFirst
asks_first n tb w reach i m d l = go (judges tb x (known_all n tb reach i) d)
  where
    x : State
    x = state n tb w i

    answer : (o : Answer) → decided tb x (input.Ask d) ≡ o → TurnAnswer tb x m d (turned x m (input.Ask d) o) → TurnAnswer tb x m d (resolved tb x m (Call (input.Ask d)))
    answer o e h = subst (λ z. TurnAnswer tb x m d (turned x m (input.Ask d) z)) (sym e) h

    go : Judged tb x (known_all n tb reach i) d → TurnAnswer tb x m d (resolved tb x m (Call (input.Ask d)))
    go (wrong a e) = answer _ (ap (λ j. met j (λ r t. asking x)) e) (TurnAnswer.malformed a)
    go (closed h o e) = answer _ (ap (λ j. met j (λ r t. asking x)) e) (TurnAnswer.shut h o)
    go (right h o r is low e) = answer (asking x) (ap (λ j. met j (λ r t. asking x)) e) (there (asks_left x) refl (cases_lt 1 (length x.channels)))
      where
        there : (b : Bool) → asks_left x ≡ b → (1 < length x.channels) ⊎ (length x.channels ≤ 1) → TurnAnswer tb x m d (turned x m (input.Ask d) (asking x))
        there false g c = rw g (TurnAnswer.used_up h o g)
        there true g (inr c) = rw (g, le-ltb 1 (length x.channels) c) (TurnAnswer.alone h o g c)
        there true g (inl c) = rw (g, lt-ltb 1 (length x.channels) c) (TurnAnswer.asks h o g (first (turns m.told d.train x.me (length x.channels))) (first_in_turn x m d.train c))
