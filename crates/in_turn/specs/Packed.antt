-- Demand 3's packing about the arrays of a call: the readings before a list of trims and after it, and what the packing that follows answers and leaves.
use Rattle.std.specs.Prelude.{◌≡◌, true, List, ℕ, ◌*◌, ◌/◌, ◌<◌, ℤ, pos, length, get_or, take, drop}
use Rattle.meaning.specs.Layers.{summary, span}
use Rattle.meaning.specs.Questions.{Outcome, accepted}
use Rattle.meaning.specs.Calls.{Call, accepted_calls}
use Rattle.meaning.specs.Claim.{one_kind, Coded, LeastHolding, layer_at}

-- The clauses of PackClaim, which speaks of in_turn and pack, about arrays; the layers are those of the readings as the list left them.
pub record CodesPromised (cs : List Call) (mark : ℕ) (before after : List ℕ) (L : ℕ) (widths codes references : List ℕ) (exponents : List ℤ) : Type 0 where
  pub widths_long : length widths ≡ length before / L
  pub codes_long : length codes ≡ length before
  pub references_long : length references ≡ length before / L
  pub exponents_long : length exponents ≡ length before / L
  -- place i is in layer i / L
  pub each_code : (i : ℕ) → i < length before
      → Coded mark (accepted_calls 23 8 cs) (get_or before i 0) (layer_at widths references exponents (i / L)) (get_or codes i 0)
  pub each_layer : (j : ℕ) → j < length before / L
      → LeastHolding (get_or widths j 0) (span 23 8 (summary 23 8 mark (take L (drop (j * L) after)))) (get_or exponents j (pos 0))

-- "lists with at least one accepted call, whose accepted calls are only roundings .. or only shaves, sets, grooms and halfshaves .. and the packing is accepted"
abbrev pub PackPromised : List Call → ℕ → List ℕ → List ℕ → ℕ → List ℕ → Outcome (Unit {0}) → List ℕ → List ℕ → List ℤ → Type 0
PackPromised cs mark before after L widths answer codes references exponents =
    0 < length (accepted_calls 23 8 cs) → one_kind (accepted_calls 23 8 cs) ≡ true → answer ≡ accepted tt → CodesPromised cs mark before after L widths codes references exponents
