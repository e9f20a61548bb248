use Rattle.std.proofs.Common.{◌≡◌, ℕ, ◌+◌, ◌-◌, ◌++◌, length, take, drop, vec_items, sym, ap, ◌∙◌, arith, length-take, length-drop}
use Rattle.std.proofs.Math.Seq.{take-append_seam}
use Rattle.std.proofs.lemmas.List.{drop-take}
use Rattle.station.proofs.part.Part.let_go.Goals as goal

pub returns-clause-left : goal.returns-clause-left
returns-clause-left c =
    let xs = vec_items c.args.self.now.bytes in
    let k = c.args.count in
    let m = c.args.self.now.filled in
    let n = m - k in
    let part = take n (drop k xs) in
    let long : length part ≡ n = omega (arith, length-take n (drop k xs), length-drop k xs, c.args.self.now.within) in
    let whole : k + n ≡ m = omega arith in
    let rest = drop (0 + n) xs in
    let moved : vec_items c.copy_within.new.self ≡ (take 0 xs ++ part) ++ rest = c.copy_within.ensures.items in
    ap (take n) moved ∙ ap (λ (j : ℕ). take j (part ++ rest)) (sym long) ∙ take-append_seam part rest ∙ sym (drop-take k n xs) ∙ ap (λ (j : ℕ). drop k (take j xs)) whole
