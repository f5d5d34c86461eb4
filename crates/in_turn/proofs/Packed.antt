-- Demand 3's packing of the arrays before and after: meaning's claim, where the readings are left as the list leaves them and the other arrays as the packing does.
use mathlib.Core.Path.{◌≡◌, sym, ap, ◌∙◌}
use mathlib.Core.List.{List}
use Prim.Native.Nat.{ℕ}
use lib.IntN.{ℤ}
use lib.ListN.{length}
use Rattle.meaning.specs.Questions.{Outcome}
use Rattle.meaning.specs.Calls.{Call, in_turn, pack}
use Rattle.meaning.proofs.Packed.{demand_3}
use Rattle.in_turn.specs.Packed.{PackPromised}

module _ {cs : List Call} {mark L : ℕ} {before after : List ℕ} (widths codes₀ references₀ : List ℕ) (exponents₀ : List ℤ) where
  pub pack_promised : {answer : Outcome (Unit {0})} {codes references : List ℕ} {exponents : List ℤ} → after ≡ in_turn 23 8 cs mark before
      → let p = pack mark L widths (in_turn 23 8 cs mark before) codes₀ references₀ exponents₀ in
      answer ≡ p.answer → codes ≡ p.codes → references ≡ p.references → exponents ≡ p.exponents → PackPromised cs mark before after L widths answer codes references exponents
  pack_promised e a c r x some kind done =
      let p = demand_3.packing cs mark before some kind L widths codes₀ references₀ exponents₀ (sym a ∙ done) in
      record {
        widths_long = p.widths_long;
        codes_long = ap length c ∙ p.codes_long;
        references_long = ap length r ∙ p.references_long;
        exponents_long = ap length x ∙ p.exponents_long;
        each_code = λ i h. rw (c, r, x) (p.each_code i h);
        each_layer = λ j h. rw (e, x) (p.each_layer j h);
      }
