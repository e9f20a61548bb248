-- What comes to a station, as it was read and among the others; and a message that comes as its bytes.
-- Assumes nothing.
use Rattle.std.proofs.Common.{◌≡◌, ℕ, ◌<◌, List, [], get_or, vec_items, refl, sym, ap, ◌∙◌}
use mathlib.Core.Logic.{∥∥₁_elim}
use Rattle.asking.specs.Events.{event_of}
use Rattle.giving.specs.declared.ids.StationId.{StationId}
use Rattle.giving.specs.declared.message.Body.{Body}
use Rattle.lines.proofs.Laws.{reads_back}
use Rattle.lines.specs.Bytes.{SoundBody, body_bytes}
use Rattle.lines.specs.Reading.{message}
use Rattle.receiving.specs.Incoming.{event_read, incoming, sender}
use Rattle.rehearsal.proofs.Fallen.{me_stays}
use Rattle.rehearsal.proofs.Posts.{here_is}
use Rattle.rehearsal.specs.Comings.{event_in}
use Rattle.rehearsal.specs.Lives.{shown}
use Rattle.rehearsal.specs.Seen.{count, journals, rows, state_of}
use Rattle.rehearsal.specs.declared.coming.Coming.{Coming}
use Rattle.rehearsal.specs.declared.post.Post.{Post}
use Rattle.rehearsal.specs.declared.world.World.{World as Code}
use Rattle.state.specs.States.{begun}
use Rattle.std.proofs.Props.{props}
use Rattle.std.proofs.lemmas.Bool.{lt-ltb}

-- a station is the one at its place
pub me_is : (w : Code) (i : ℕ) → i < count w → (state_of w i).me ≡ i
me_is w i l = ∥∥₁_elim w.lives (Prim.hlevel props) (λ h. ap (λ s. s.me) (h.faithful i l) ∙ me_stays (rows w) (begun (count w) i) (get_or (journals w) i []))

pub event_here : (w : Code) (i : ℕ) (p : Post) → i < count w → p ≡ get_or (vec_items w.posts) i p → (x : Coming) → event_in (shown p).me x ≡ event_in (state_of w i).me x
event_here w i p b e x = ap (λ s. event_in s.me x) (sym (here_is (vec_items w.posts) i p b e))

sender_is : (me : ℕ) (k : StationId) → k.0 < 256 → sender me k.0 ≡ k
sender_is me k l = rw (lt-ltb k.0 256 l) refl

-- what was said is what is read of its bytes
pub event_back : (me : ℕ) (k : StationId) (b : Body) (bs : List ℕ) → k.0 < 256 → SoundBody b → bs ≡ body_bytes b → incoming me k.0 bs ≡ event_of k b
event_back me k b bs l h e = ap (λ (l : List ℕ). event_read (sender me k.0) (message l)) e ∙ ap (event_read (sender me k.0)) (reads_back.0 b h) ∙ ap (λ k. event_of k b) (sender_is me k l)
