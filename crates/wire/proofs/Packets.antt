-- What was sent is read back as what was said.
-- Assumes nothing.
use Rattle.std.proofs.Common.{◌≡◌, ℕ, ◌<◌, List, [], ◌∷◌, ◌++◌, map, Ok, sym, refl, ap, ◌∙◌, subst}
use mathlib.Core.List.{Memᴰ}
use mathlib.Core.List.Memᴰ.{append_left, append_right}
use Rattle.giving.specs.declared.message.Message.{Message}
use Rattle.lines.proofs.Laws.{written_is_read}
use Rattle.lines.specs.Bytes.{SoundBody}
use Rattle.lines.specs.Reading.{message}
use Rattle.std.proofs.lemmas.List.Concat.{flat_map-append}
use Rattle.std.specs.List.{AllByRecursion}
use Rattle.wire.proofs.Said.{Fine}
use Rattle.wire.specs.Nets.{Packet, packet, read_back, said_in}

-- a packet that was said by one of n stations
pub record Genuine (n : ℕ) (p : Packet) : Type 0 where
  pub said : Message
  pub is : p ≡ packet said
  pub from : said.from.0 < n
  pub sound : SoundBody said.body

pub genuine_all : (n i : ℕ) → i < n → (ms : List Message) → AllByRecursion (Fine i) ms → AllByRecursion (Genuine n) (map packet ms)
genuine_all n i l [] h = tt
genuine_all n i l (m ∷ ms) h = (record { said = m; is = refl; from = subst (λ k. k < n) (sym h.0.0) l; sound = h.0.1 }, genuine_all n i l ms h.1)

-- what a packet is read back as
abbrev back : Packet → List Message
back p = read_back p (message p.bytes)

pub reads : (n : ℕ) (p : Packet) (g : Genuine n p) → message p.bytes ≡ Ok g.said.body
reads n p g = ap (λ (p : Packet). message p.bytes) g.is ∙ written_is_read g.said.body g.sound

back_is : (m : Message) → SoundBody m.body → back (packet m) ≡ m ∷ []
back_is m s = ap (read_back (packet m)) (written_is_read m.body s)

pub said_all : (i : ℕ) (ms : List Message) → AllByRecursion (Fine i) ms → said_in (map packet ms) ≡ ms
said_all i [] h = refl
said_all i (m ∷ ms) h = ap (λ ys. ys ++ said_in (map packet ms)) (back_is m h.0.1) ∙ ap (λ ys. m ∷ ys) (said_all i ms h.1)

pub said_more : (i : ℕ) (ps : List Packet) (ms : List Message) → AllByRecursion (Fine i) ms → said_in (ps ++ map packet ms) ≡ said_in ps ++ ms
said_more i ps ms h = flat_map-append back ps (map packet ms) ∙ ap (λ ys. said_in ps ++ ys) (said_all i ms h)

-- a packet of these was said by one of n stations
pub genuine_one : {n : ℕ} {p : Packet} {ps : List Packet} → Memᴰ p ps → AllByRecursion (Genuine n) ps → Genuine n p
genuine_one {n} {p} (Memᴰ.head {x = q} {xs = qs} e) h = subst (Genuine n) (sym e) h.0
genuine_one (Memᴰ.tail {x = q} {xs = qs} m) h = genuine_one m h.1

pub said_one : (n : ℕ) {p : Packet} {ps : List Packet} → Memᴰ p ps → (g : Genuine n p) → Memᴰ g.said (said_in ps)
said_one n {p} (Memᴰ.head {x = q} {xs = qs} e) g =
    append_left (said_in qs) (subst (λ ys. Memᴰ g.said ys) (sym (ap back (sym e ∙ g.is) ∙ back_is g.said g.sound)) (Memᴰ.head refl))
said_one n (Memᴰ.tail {x = q} {xs = qs} m) g = append_right (back q) (said_one n m g)
