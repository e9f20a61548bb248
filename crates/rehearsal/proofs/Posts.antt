-- A station as it was read, and as it is written, among the others.
-- Assumes nothing.
use Rattle.std.proofs.Common.{◌≡◌, ℕ, ◌<◌, List, [], ◌++◌, map, length, get_or, set, None, sym, ap, ◌∙◌, subst, ap₂}
use lib.Seq.{map-set, map-set_same}
use Rattle.asking.specs.Events.{Response}
use Rattle.asking.specs.Minds.{Mind, empty}
use Rattle.asking.specs.Replies.{lasting, minded, spoken}
use Rattle.asking.specs.declared.event.Event.{Event}
use Rattle.giving.proofs.Mapped.{map_at}
use Rattle.giving.specs.declared.message.Message.{Message}
use Rattle.rehearsal.specs.Lives.{shown, journal_of, mind_in, nowhere}
use Rattle.rehearsal.specs.declared.post.Post.{Post}
use Rattle.state.specs.States.{State}
use Rattle.state.specs.declared.record.Record.{Record}
use Rattle.std.proofs.lemmas.List.{get_or_default}
use Rattle.timetable.specs.Rows.{Table}

module _ (ps : List Post) (i : ℕ) (p : Post) (b : i < length ps) (e : p ≡ get_or ps i p) where
  pub here_is : get_or (map shown ps) i nowhere ≡ shown p
  here_is = map_at shown ps i p nowhere b e

  pub mind_is : get_or (map mind_in ps) i empty ≡ mind_in p
  mind_is = map_at mind_in ps i p empty b e

  pub cut_is : get_or (map (λ p. p.cut) ps) i None ≡ p.cut
  cut_is = map_at (λ p. p.cut) ps i p None b e

  pub same_post : (r : Post) → r ≡ get_or ps i r → p ≡ r
  same_post r f = e ∙ get_or_default ps i p r b ∙ sym f

  -- what holds of the station as it was read
  pub at_post : (P : Post → State → Mind → Type 0) → P p (shown p) (mind_in p) → (r : Post) → r ≡ get_or ps i r → P r (get_or (map shown ps) i nowhere) (get_or (map mind_in ps) i empty)
  at_post P h r f =
      subst (λ z. P z (get_or (map shown ps) i nowhere) (get_or (map mind_in ps) i empty)) (same_post r f)
      (subst (λ s. P p s (get_or (map mind_in ps) i empty)) (sym here_is) (subst (P p (shown p)) (sym mind_is) h))

  pub states_are : (f : State → State) (q : Post) → shown q ≡ f (shown p) → map shown (set ps i q) ≡ set (map shown ps) i (f (get_or (map shown ps) i nowhere))
  states_are f q v = map-set shown ps i q ∙ ap (set (map shown ps) i) (v ∙ ap f (sym here_is))

  pub journals_then : (f : State → List Record) (q : Post) → journal_of q ≡ journal_of p ++ f (shown p) → map journal_of (set ps i q) ≡ set (map journal_of ps) i (get_or (map journal_of ps) i [] ++ f (get_or (map shown ps) i nowhere))
  journals_then f q j = map-set journal_of ps i q ∙ ap (set (map journal_of ps) i) (j ∙ ap₂ (λ l es. l ++ es) (sym (map_at journal_of ps i p [] b e)) (ap f (sym here_is)))

  pub minds_are : (f : State → Mind → Mind) (q : Post) → mind_in q ≡ f (shown p) (mind_in p) → map mind_in (set ps i q) ≡ set (map mind_in ps) i (f (get_or (map shown ps) i nowhere) (get_or (map mind_in ps) i empty))
  minds_are f q m = map-set mind_in ps i q ∙ ap (set (map mind_in ps) i) (m ∙ ap₂ f (sym here_is) (sym mind_is))

  pub minds_same : (q : Post) → mind_in q ≡ mind_in p → map mind_in (set ps i q) ≡ map mind_in ps
  minds_same q m = map-set_same mind_in ps i q p (m ∙ ap mind_in e)

  pub said_then : (tb : Table) (q : Post) (x : Event) (r : Response) (ms ns : List Message) → shown q ≡ lasting tb (shown p) r → mind_in q ≡ minded (shown p) (mind_in p) x r → ns ≡ ms ++ spoken tb (shown q) (mind_in q) x r →
      ns ≡ ms ++ spoken tb (lasting tb (get_or (map shown ps) i nowhere) r) (minded (get_or (map shown ps) i nowhere) (get_or (map mind_in ps) i empty) x r) x r
  said_then tb q x r ms ns v m n = n ∙ ap₂ (λ s z. ms ++ spoken tb s z x r) (v ∙ ap (λ s. lasting tb s r) (sym here_is)) (m ∙ ap₂ (λ s z. minded s z x r) (sym here_is) (sym mind_is))

  pub cuts_same : (q : Post) → q.cut ≡ p.cut → map (λ p. p.cut) (set ps i q) ≡ map (λ p. p.cut) ps
  cuts_same q m = map-set_same (λ p. p.cut) ps i q p (m ∙ ap (λ p. p.cut) e)
