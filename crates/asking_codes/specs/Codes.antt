-- The bits of some codes; and codes in whole layers, each with a width.
use Rattle.std.specs.Prelude.{◌≡◌, List, ℕ, ◌/◌, ◌%◌, ◌≤◌, ◌<◌, leb, length, get_or}
use Rattle.meaning.specs.Layers.{missing_code}
use Rattle.meaning.specs.Questions.{all, code_in_range}

-- a number tells of every width whether all codes are at most its missing code
abbrev pub BitsOf : ℕ → List ℕ → Type 0
BitsOf bits cs = (w : ℕ) → leb bits (missing_code w) ≡ all (code_in_range w) cs

pub record InLayers (L : ℕ) (widths codes : List ℕ) : Type 0 where
  pub some : 1 ≤ L
  pub whole : length codes % L ≡ 0
  pub one_width : length widths ≡ length codes / L
  pub few_bits : (i : ℕ) → i < length widths → get_or widths i 0 ≤ 16
