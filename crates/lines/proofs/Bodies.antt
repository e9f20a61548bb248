-- Messages, as they are written and read, whatever is behind them.
use Rattle.std.proofs.Common.{◌≡◌, ℕ, zero, suc, ◌^◌, ◌<◌, List, [], ◌∷◌, ◌++◌, length, take, Ok, Err, refl}
use Rattle.giving.specs.declared.message.Body.{Body}
use Rattle.giving.specs.declared.message.Body.TheVariants.{Given, Taken, Asked, Answered, Told}
use Rattle.lines.specs.Bytes.{AreBytes, SoundBody, body_bytes, long, short as short_bytes}
use Rattle.lines.specs.Fields.{byte, half, then, word}
use Rattle.lines.specs.Reading.{as_answered, as_asked, as_given, as_taken, as_told, first, of_kind}
use Rattle.lines.specs.declared.fault.Fault.TheVariants.{Cut}
use Rattle.lines.proofs.ByKind.{Written, either, made_again, made_back, made_short}
use Rattle.lines.proofs.Layouts.{Layout, then_layout}
use Rattle.lines.proofs.Numbers.{byte_layout, half_layout, word_layout}
use Rattle.lines.proofs.Pieces.{piece_numbered}

-- ---- what stands behind a message's kind

ask : Layout (then word (λ _. then byte (λ _. then byte (λ _. then byte (λ _. word))))) (λ x. long x.0 ++ x.1.0 ∷ x.1.1.0 ∷ x.1.1.1.0 ∷ long x.1.1.1.1)
    (λ x. (x.0 < 2 ^ 32) × ((x.1.0 < 256) × ((x.1.1.0 < 256) × ((x.1.1.1.0 < 256) × (x.1.1.1.1 < 2 ^ 32)))))
ask =
    then_layout word long (λ n. n < 2 ^ 32) (λ _. then byte (λ _. then byte (λ _. then byte (λ _. word)))) (λ _ x. x.0 ∷ x.1.0 ∷ x.1.1.0 ∷ long x.1.1.1) (λ _ x. (x.0 < 256) × ((x.1.0 < 256) × ((x.1.1.0 < 256) × (x.1.1.1 < 2 ^ 32)))) word_layout
    (λ _. then_layout byte (λ b. b ∷ []) (λ b. b < 256) (λ _. then byte (λ _. then byte (λ _. word))) (λ _ x. x.0 ∷ x.1.0 ∷ long x.1.1) (λ _ x. (x.0 < 256) × ((x.1.0 < 256) × (x.1.1 < 2 ^ 32))) byte_layout
    (λ _. then_layout byte (λ b. b ∷ []) (λ b. b < 256) (λ _. then byte (λ _. word)) (λ _ x. x.0 ∷ long x.1) (λ _ x. (x.0 < 256) × (x.1 < 2 ^ 32)) byte_layout
    (λ _. then_layout byte (λ b. b ∷ []) (λ b. b < 256) (λ _. word) (λ _. long) (λ _ n. n < 2 ^ 32) byte_layout (λ _. word_layout))))

answer : Layout (then word (λ _. byte)) (λ x. long x.0 ++ x.1 ∷ []) (λ x. (x.0 < 2 ^ 32) × (x.1 < 256))
answer = then_layout word long (λ n. n < 2 ^ 32) (λ _. byte) (λ _ b. b ∷ []) (λ _ b. b < 256) word_layout (λ _. byte_layout)

tally : Layout (then word (λ _. then half (λ _. half))) (λ x. long x.0 ++ (short_bytes x.1.0 ++ short_bytes x.1.1)) (λ x. (x.0 < 2 ^ 32) × ((x.1.0 < 2 ^ 16) × (x.1.1 < 2 ^ 16)))
tally =
    then_layout word long (λ n. n < 2 ^ 32) (λ _. then half (λ _. half)) (λ _ x. short_bytes x.0 ++ short_bytes x.1) (λ _ x. (x.0 < 2 ^ 16) × (x.1 < 2 ^ 16)) word_layout
    (λ _. then_layout half short_bytes (λ n. n < 2 ^ 16) (λ _. half) (λ _. short_bytes) (λ _ n. n < 2 ^ 16) half_layout (λ _. half_layout))

-- ---- what is written is read

pub again : (b : Body) (ys : List ℕ) → SoundBody b → first (body_bytes b ++ ys) ≡ Ok (b, ys)
again (Given n p) ys h = made_again as_given _ _ _ piece_numbered (n.0, p) ys h
again (Taken n) ys h = made_again as_taken _ _ _ word_layout n.0 ys h
again (Asked a d) ys h = made_again as_asked _ _ _ ask (d.train.0, (d.from.0, (d.to.0, (d.people, a.0)))) ys (h.0.0, (h.0.1, (h.0.2, (h.0.3, h.1))))
again (Answered a m) ys h = made_again as_answered _ _ _ answer (a.0, m) ys h
again (Told t y) ys h = made_again as_told _ _ _ tally (t.0, (y.whole, y.any)) ys (h.0, (h.1, h.2))

-- ---- any part in front of it is cut

pub short : (b : Body) (k : ℕ) → SoundBody b → k < length (body_bytes b) → first (take k (body_bytes b)) ≡ Err Cut
short b zero h lt = refl
short (Given n p) (suc k) h lt = made_short as_given _ _ _ piece_numbered (n.0, p) k h lt
short (Taken n) (suc k) h lt = made_short as_taken _ _ _ word_layout n.0 k h lt
short (Asked a d) (suc k) h lt = made_short as_asked _ _ _ ask (d.train.0, (d.from.0, (d.to.0, (d.people, a.0)))) k (h.0.0, (h.0.1, (h.0.2, (h.0.3, h.1)))) lt
short (Answered a m) (suc k) h lt = made_short as_answered _ _ _ answer (a.0, m) k h lt
short (Told t y) (suc k) h lt = made_short as_told _ _ _ tally (t.0, (y.whole, y.any)) k (h.0, (h.1, h.2)) lt

-- ---- what is read was written

kind_back : (k : ℕ) (bs : List ℕ) (b : Body) (ys : List ℕ) → AreBytes bs → of_kind k bs ≡ Ok (b, ys) → Written body_bytes SoundBody bs b ys k
kind_back k bs b ys h =
    let P : ℕ → Type 0 = Written body_bytes SoundBody bs b ys in
    either P k 1 _ _ _ (made_back body_bytes SoundBody 1 as_given _ _ _ piece_numbered (λ x g. g) (λ x. refl) bs b ys h)
    (either P k 2 _ _ _ (made_back body_bytes SoundBody 2 as_taken _ _ _ word_layout (λ x g. g) (λ x. refl) bs b ys h)
    (either P k 3 _ _ _ (made_back body_bytes SoundBody 3 as_asked _ _ _ ask (λ x g. ((g.0, g.1.0, g.1.1.0, g.1.1.1.0), g.1.1.1.1)) (λ x. refl) bs b ys h)
    (either P k 4 _ _ _ (made_back body_bytes SoundBody 4 as_answered _ _ _ answer (λ x g. g) (λ x. refl) bs b ys h)
    (either P k 5 _ _ _ (made_back body_bytes SoundBody 5 as_told _ _ _ tally (λ x g. (g.0, g.1.0, g.1.1)) (λ x. refl) bs b ys h)
    (λ n. absurd cc)))))

pub back : (bs : List ℕ) (b : Body) (ys : List ℕ) → AreBytes bs → first bs ≡ Ok (b, ys) → SoundBody b × (bs ≡ body_bytes b ++ ys)
back [] b ys h is = absurd cc
back (k ∷ bs) b ys h is = kind_back k bs b ys (λ i. h (suc i)) is
