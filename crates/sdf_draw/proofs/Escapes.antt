-- Texts made of others character by character.
use Rattle.std.proofs.Common.{◌≡◌, ◌++◌, ℕ, List, [], length, chars, encode_utf8, IsUtf8, ap, ◌∙◌}
use Rattle.std.proofs.lemmas.Str.{chars_past_char, chars-nil}
use Rattle.std.proofs.lemmas.List.{nil_from_length}
use Rattle.std.specs.List.{flat_map}

pub chars_step : (f : ℕ → List ℕ) (text rest : List ℕ) (c : ℕ) → IsUtf8 text → text ≡ encode_utf8 c ++ rest →
    flat_map f (chars text) ≡ f c ++ flat_map f (chars rest)
chars_step f text rest c utf8 parts = ap (flat_map f) (chars_past_char text rest c utf8 parts)

pub chars_empty : (f : ℕ → List ℕ) (text : List ℕ) → length text ≡ 0 → flat_map f (chars text) ≡ []
chars_empty f text none = ap (flat_map f) (ap chars (nil_from_length text none) ∙ chars-nil)
