-- What a packing leaves, by the questions as the code asks them.
use mathlib.Core.Path.{◌≡◌, refl, sym, ◌∙◌}
use mathlib.Core.Logic.{◌≢◌}
use mathlib.Core.Bool.{Bool, true, false, cond}
use mathlib.Core.List.{List, [], ◌∷◌, map}
use Prim.Native.Nat.{ℕ}
use borrow.Author.Tests.{eq-eqb, ne_eqb, eqb-true, leb-true}
use lib.Dec.{leb, eqb}
use lib.IntN.{ℤ}
use lib.Ieee.{Float, binary32, to_bits}
use lib.ListN.{length, get_or, length-map}
use Rattle.meaning.specs.Layers.{packed_codes}
use Rattle.meaning.specs.Questions as meaning
use Rattle.meaning.specs.Questions.{Outcome, refused, accepted, ask, all, width_in_range, pack_questions}
use Rattle.meaning.specs.Calls.{AfterPack, leaving, pack}
use Rattle.meaning.proofs.Accepted.{and_first, and_second}
use Rattle.meaning.proofs.Elements.{all_at}
use Rattle.meaning.proofs.Packed.{asked}
use Rattle.asking_layers.specs.LayerAsked.{layer_refusal}
use Rattle.asking_layers.proofs.Layers.{lengths, layers_asked}
use Rattle.summary.specs.Summaries.{Packable}
use Rattle.all_layers.specs.Arrays.{Fit, packed_references, packed_exponents}
use Rattle.packing.specs.Answers.{packed}

-- a refused call: the number, and the arrays as they were
pub record Refusal (n : ℕ) (cs rs : List ℕ) (es : List ℤ) (p : AfterPack) : Type 0 where
  pub answer : refused n ≡ p.answer
  pub codes : cs ≡ p.codes
  pub references : rs ≡ p.references
  pub exponents : es ≡ p.exponents

pub record Acceptance (mark L : ℕ) (bs ws : List ℕ) (p : AfterPack) : Type 0 where
  pub answer : accepted tt ≡ p.answer
  pub codes : packed_codes 23 8 277 mark L bs ws ≡ p.codes
  pub references : packed_references mark L bs ws ≡ p.references
  pub exponents : packed_exponents mark L bs ws ≡ p.exponents

module _ (mark L : ℕ) (bs ws cs : List ℕ) (rs : List Float) (es : List ℤ) where
  abbrev number : ℕ
  number = layer_refusal L (length ws) (eqb (length cs) (length ws)) (length rs ∷ length es ∷ []) bs

  abbrev good : Bool
  good = all (meaning.packable mark) ws

  abbrev questions : Outcome (Unit {0})
  questions = pack_questions mark L bs ws (length cs) (length (map (to_bits binary32) rs)) (length es)

  asked_are : questions ≡ cond (eqb number 0) (ask good 6 (accepted tt)) (refused number)
  unfolding pack_questions
  asked_are = rw (length-map rs (to_bits binary32)) (layers_asked L (length ws) (eqb (length cs) (length ws)) (length rs) (length es) bs (ask good 6 (accepted tt)))

  refusal : (n : ℕ) → questions ≡ refused n → Refusal n cs (map (to_bits binary32) rs) es (packed mark L bs ws cs rs es)
  unfolding pack leaving
  refusal n e = record { answer = sym e; codes = rw e refl; references = rw e refl; exponents = rw e refl }

  pub wrong_length : number ≢ 0 → Refusal number cs (map (to_bits binary32) rs) es (packed mark L bs ws cs rs es)
  wrong_length h = refusal number (asked_are ∙ rw (ne_eqb number 0 h) refl)

  pub wrong_reading : number ≡ 0 → good ≡ false → Refusal 6 cs (map (to_bits binary32) rs) es (packed mark L bs ws cs rs es)
  unfolding ask
  wrong_reading h g = refusal 6 (asked_are ∙ rw (eq-eqb number 0 h, g) refl)

  yes_to_all : number ≡ 0 → good ≡ true → questions ≡ accepted tt
  unfolding ask
  yes_to_all h g = asked_are ∙ rw (eq-eqb number 0 h, g) refl

  pub fit : number ≡ 0 → Fit L bs ws cs rs es
  fit h =
      let l = lengths L (length ws) (eqb (length cs) (length ws)) (length rs) (length es) bs h in
      record {
        some = l.some;
        whole = l.whole;
        as_many = eqb-true (length cs) (length ws) l.as_many;
        one_width = l.one_width;
        one_reference = l.one_reference;
        one_exponent = l.one_exponent;
        in_range = λ i k.
            let w = get_or bs i 0 in
            let t = all_at width_in_range 0 bs l.widths_known i k in
            record { low = leb-true 2 w (and_first (leb 2 w) (leb w 16) t); high = leb-true w 16 (and_second (leb 2 w) (leb w 16) t) };
      }

  pub packable : number ≡ 0 → good ≡ true → Packable mark ws
  packable h g = (asked mark L bs ws (length cs) (length (map (to_bits binary32) rs)) (length es) (yes_to_all h g)).packable

  pub acceptance : number ≡ 0 → good ≡ true → Acceptance mark L bs ws (packed mark L bs ws cs rs es)
  unfolding pack leaving
  acceptance h g = let e = yes_to_all h g in record { answer = sym e; codes = rw e refl; references = rw e refl; exponents = rw e refl }
