use Rattle.std.proofs.Common.{◌≡◌, ℕ, ◌<◌, ◌≤◌, false, cond, [], ◌∷◌, ◌++◌, length, replicate, vec_items, sym, ap, ◌∙◌, arith}
use Rattle.network.specs.Places.{holding, count_in, standing}
use Rattle.network.specs.declared.place.Place.TheVariants.{Held, Sold}
use Rattle.rehearsal.proofs.Absent.{sold_none, ways_none}
use Rattle.rehearsal.proofs.Finding.{held_at, found_nothing, found_then, found_else, found_three}
use Rattle.rehearsal.proofs.Posts.{here_is}
use Rattle.rehearsal.specs.Seen.{state_of}
use Rattle.std.proofs.lemmas.Bool.{le-ltb, false≢true}
use Rattle.std.proofs.lemmas.Result.{IfOk-weaker}
use Rattle.rehearsal.proofs.world.World.spots.Goals as goal
use Rattle.rehearsal.proofs.world.World.spots.Goals.{then-holds_stretch+in_ok-push, else-holds_stretch}

pub returns : goal.returns
returns c =
    let w = c.args.self.now in
    let ps = vec_items w.posts in
    let i = c.args.who.0 in
    let t = c.args.at.train in
    let s = c.args.at.seat.0 in
    let u = c.args.at.stop.0 in
    let b : i < length ps = omega arith in
    let xs = vec_items c.args.found.now in
    let held : s < 400 → c.holds_stretch.result ≡ holding t s u (state_of w i) = λ l. c.holds_stretch.ensures ∙ held_at _ ps _ _ w.lives t s u l i c.post.result.now b c.post.ensures in
    let first : s < 400 → vec_items c.if-holds_stretch.found ≡ xs ++ cond (holding t s u (state_of w i)) (Held c.args.who ∷ []) [] =
    λ l. elim c.if-holds_stretch.branch [
      | then-holds_stretch+in_ok-push v ↦ found_then _ xs _ _ (sym (held l) ∙ v.if-holds_stretch.true) (ap (λ x. vec_items x) v.found-is ∙ v.in_ok-push.ensures.items)
      | else-holds_stretch v ↦ found_else _ xs _ _ (sym (held l) ∙ v.if-holds_stretch.false) (ap (λ x. vec_items x) v.found-is)
    ] in
    let unheld : 400 ≤ s → c.holds_stretch.result ≡ false = λ l. rw (le-ltb s 400 l) at c.holds_stretch.ensures in
    let same : 400 ≤ s → vec_items c.if-holds_stretch.found ≡ xs =
    λ l. elim c.if-holds_stretch.branch [
      | then-holds_stretch+in_ok-push v ↦ absurd (false≢true (sym (unheld l) ∙ v.if-holds_stretch.true))
      | else-holds_stretch v ↦ ap (λ x. vec_items x) v.found-is
    ] in
    let second : vec_items c.push_many.new.found ≡ vec_items c.if-holds_stretch.found ++ replicate (count_in t s u (standing (state_of w i).tickets)) (Sold c.args.who) =
    c.in_ok-push_many.ensures
    ∙ ap (λ (n : ℕ). vec_items c.if-holds_stretch.found ++ replicate n (Sold c.args.who)) (c.count_sold.ensures ∙ ap (λ x. count_in t s u (standing x.tickets)) (sym (here_is ps i c.post.result.now b c.post.ensures))) in
    record {
      all = IfOk-weaker c.ways.result _ _ (λ _ h l. found_three xs _ _ _ _ _ _ (first l) second h) c.ways.ensures;
      none = IfOk-weaker c.ways.result _ _ (λ _ h l. found_nothing xs _ _ _ _ _ (same l) second h (ap (λ (n : ℕ). replicate n (Sold c.args.who)) (sold_none t s u l _ ps _ _ w.lives i b)) (ways_none t s u l _ ps _ _ w.lives i b)) c.ways.ensures;
    }
