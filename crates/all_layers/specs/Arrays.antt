-- The lengths that go together, and what packing leaves of all layers by the definitions.
use Rattle.std.specs.Prelude.{◌≡◌, List, map, ℕ, ◌/◌, ◌%◌, ◌≤◌, ◌<◌, ℤ, Float, length, get_or}
use Rattle.meaning.specs.Layers as meaning
use Rattle.meaning.specs.Calls.{stored_exponent}
use Rattle.layer_width.specs.Width.{Width}

-- an array of readings in whole layers of L, and the other arrays with the lengths that follow; each layer's width is 2 to 16
pub record Fit (L : ℕ) (widths ws codes : List ℕ) (references : List Float) (exponents : List ℤ) : Type 0 where
  pub some : 1 ≤ L
  pub whole : length ws % L ≡ 0
  pub as_many : length codes ≡ length ws
  pub one_width : length widths ≡ length ws / L
  pub one_reference : length references ≡ length ws / L
  pub one_exponent : length exponents ≡ length ws / L
  pub in_range : (i : ℕ) → i < length widths → Width (get_or widths i 0)

-- what packing leaves of each layer
abbrev pub packed_references : ℕ → ℕ → List ℕ → List ℕ → List ℕ
packed_references mark L widths ws = map (λ l. l.reference) (meaning.packed_layers 23 8 277 mark L widths ws)

abbrev pub packed_exponents : ℕ → ℕ → List ℕ → List ℕ → List ℤ
packed_exponents mark L widths ws = map stored_exponent (meaning.packed_layers 23 8 277 mark L widths ws)
