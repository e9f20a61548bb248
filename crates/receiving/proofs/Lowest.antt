-- The first refusal that applies, in the order of the numbers, is the one with the lowest number.
use Rattle.std.proofs.Common.{◌≡◌, ℕ, ◌+◌, ◌<◌, ◌≤◌, Bool, true, false, cond, eqb, Option, Some, refl, sym, ap, subst, ◌∙◌, arith, ◌⊎◌, inl, inr}
use Rattle.giving.specs.Refusals.{number}
use Rattle.giving.specs.declared.refusal.Refusal.{Refusal}
use Rattle.giving.specs.declared.refusal.Refusal.TheVariants.{Malformed, OutOfTurn, NotOpen, NothingHeld, NoSuchTicket, Full, NoSuchStation, Memory}
use Rattle.receiving.specs.Grounds.{lowest}
use Rattle.receiving.specs.Laws.{IsLowest, LowestWins}
use Rattle.std.proofs.lemmas.Bool.{cases_lt, true≢false}

abbrev one_number : ℕ → Option ℕ
one_number n = Some n

some_is : (a b : ℕ) → one_number a ≡ one_number b → a ≡ b
some_is a b e = cc

-- the refusal that has a number
abbrev named : ℕ → Refusal
named n = cond (eqb n 1) Malformed (cond (eqb n 2) OutOfTurn (cond (eqb n 3) NotOpen (cond (eqb n 4) NothingHeld (cond (eqb n 5) NoSuchTicket (cond (eqb n 6) Full NoSuchStation)))))

record Numbered (r : Refusal) (n : ℕ) : Type 0 where
  pub is : named n ≡ r
  pub low : 1 ≤ n
  pub high : n ≤ 7

numbered : (r : Refusal) (n : ℕ) → number r ≡ Some n → Numbered r n
numbered Malformed n e = subst (Numbered Malformed) (some_is 1 n e) (record { is = refl; low = omega arith; high = omega arith })
numbered OutOfTurn n e = subst (Numbered OutOfTurn) (some_is 2 n e) (record { is = refl; low = omega arith; high = omega arith })
numbered NotOpen n e = subst (Numbered NotOpen) (some_is 3 n e) (record { is = refl; low = omega arith; high = omega arith })
numbered NothingHeld n e = subst (Numbered NothingHeld) (some_is 4 n e) (record { is = refl; low = omega arith; high = omega arith })
numbered NoSuchTicket n e = subst (Numbered NoSuchTicket) (some_is 5 n e) (record { is = refl; low = omega arith; high = omega arith })
numbered Full n e = subst (Numbered Full) (some_is 6 n e) (record { is = refl; low = omega arith; high = omega arith })
numbered NoSuchStation n e = subst (Numbered NoSuchStation) (some_is 7 n e) (record { is = refl; low = omega arith; high = omega arith })
numbered Memory n e = absurd cc

module _ (f : Refusal → Bool) where
  -- none with a number below n applies
  abbrev NoneBelow : ℕ → Type 0
  NoneBelow n = (r : Refusal) (k : ℕ) → number r ≡ Some k → k < n → f r ≡ false

  none_more : (n : ℕ) (r : Refusal) → number r ≡ Some n → f r ≡ false → NoneBelow n → NoneBelow (n + 1)
  none_more n r e not b q k g l = go (cases_lt k n)
    where
      go : (k < n) ⊎ (n ≤ k) → f q ≡ false
      go (inl c) = b q k g c
      go (inr c) =
          let same : k ≡ n = omega arith in
          ap f (sym (numbered q k g).is ∙ ap named same ∙ (numbered r n e).is) ∙ not

  -- one after the other
  one_more : (n : ℕ) (r : Refusal) (o : Option Refusal) → number r ≡ Some n → NoneBelow n → (NoneBelow (n + 1) → IsLowest f o) → IsLowest f (cond (f r) (Some r) o)
  one_more n r o e b rest = go (f r) refl
    where
      least : f r ≡ true → (q : Refusal) (m k : ℕ) → f q ≡ true → number r ≡ Some m → number q ≡ Some k → m ≤ k
      least x q m k h a g = go (cases_lt k m)
        where
          go : (k < m) ⊎ (m ≤ k) → m ≤ k
          go (inl c) = absurd (true≢false (sym h ∙ b q k g (subst (λ (j : ℕ). k < j) (some_is m n (sym a ∙ e)) c)))
          go (inr c) = c

      go : (x : Bool) → f r ≡ x → IsLowest f (cond x (Some r) o)
      go true h = (h, least h)
      go false h = rest (none_more n r e h b)

  first_is : IsLowest f (lowest f)
  first_is =
      one_more 1 Malformed _ refl (λ r k e l. absurd (omega (arith, (numbered r k e).low)))
      (λ b. one_more 2 OutOfTurn _ refl b
      (λ b. one_more 3 NotOpen _ refl b
      (λ b. one_more 4 NothingHeld _ refl b
      (λ b. one_more 5 NoSuchTicket _ refl b
      (λ b. one_more 6 Full _ refl b
      (λ b. one_more 7 NoSuchStation _ refl b
      (λ b r n e. b r n e (omega (arith, (numbered r n e).high)))))))))

pub lowest_wins : LowestWins
lowest_wins = first_is
