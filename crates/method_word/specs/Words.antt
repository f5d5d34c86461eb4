-- The number of the method that a word names.
use Rattle.std.specs.Prelude.{ℕ, Option, Some, None}
use Rattle.method.specs.declared.Method.{Method}
use Rattle.method.specs.Kinds.{number_of}

-- 7, the number of no method, for an unknown word
abbrev pub named_number : Option Method → ℕ
named_number (Some method) = number_of method
named_number None = 7
