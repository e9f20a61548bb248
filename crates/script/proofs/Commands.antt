-- What a line says, by its first word.
use Rattle.std.proofs.Common.{◌≡◌, ℕ, List, [], ◌∷◌, refl, Option, Some, None}
use Rattle.std.specs.Option.{option_and_then}
use Rattle.script.specs.Lines.{deed_of, words_deed, line_command_of, station_command_of, command_of}
use Rattle.script.specs.Words.{line_words, number_of, numbers_of}

pub command-none : (line : List ℕ) (ws : List (List ℕ)) → Some ws ≡ line_words line → ws ≡ [] → None ≡ command_of line
command-none line ws short e = rw (← short, e) refl

pub command-line : (line w : List ℕ) (all ws : List (List ℕ)) (o : Option (List ℕ)) → Some all ≡ line_words line → all ≡ w ∷ ws → number_of w ≡ None → o ≡ numbers_of ws → option_and_then (λ ns. line_command_of w ns) o ≡ command_of line
command-line line w all ws o short e none h = rw (← short, e, none, h) refl

pub command-station : (line w : List ℕ) (all ws : List (List ℕ)) (who : ℕ) → Some all ≡ line_words line → all ≡ w ∷ ws → number_of w ≡ Some who → station_command_of who ws ≡ command_of line
command-station line w all ws who short e some = rw (← short, e, some) refl

pub deed-none : (ws : List (List ℕ)) → ws ≡ [] → None ≡ words_deed ws
deed-none ws e = rw e refl

pub deed-words : (w : List ℕ) (ws vs : List (List ℕ)) (o : Option (List ℕ)) → ws ≡ w ∷ vs → o ≡ numbers_of vs → option_and_then (λ ns. deed_of w ns) o ≡ words_deed ws
deed-words w ws vs o e h = rw (e, h) refl
