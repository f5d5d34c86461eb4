-- What an accepted unpacking knows: lengths that go together, and widths, references and exponents in range.
use Rattle.std.specs.Prelude.{◌≡◌, true, List, ℕ, ◌/◌, ◌%◌, ℤ, Float, length}
use Rattle.meaning.specs.Questions.{all, width_in_range, exponent_in_range}
use Rattle.decoding.specs.Floats.{finite_float}

-- layers of L codes, and the number of readings
pub record Known (widths codes : List ℕ) (references : List Float) (exponents : List ℤ) (L readings : ℕ) : Type 0 where
  pub whole : length codes % L ≡ 0
  pub as_many : readings ≡ length codes
  pub one_width : length widths ≡ length codes / L
  pub one_reference : length references ≡ length codes / L
  pub one_exponent : length exponents ≡ length codes / L
  pub widths_known : all width_in_range widths ≡ true
  pub references_known : all finite_float references ≡ true
  pub exponents_known : all exponent_in_range exponents ≡ true
