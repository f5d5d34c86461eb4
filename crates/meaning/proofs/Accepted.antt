-- What the questions give: an accepted method 6 has at least one digit. (Methods 0 to 5 need nothing: their laws hold for every setting.)
use mathlib.Core.Path.{◌≡◌, refl, sym, subst}
use mathlib.Core.Bool.{Bool, true, false, cond, ◌&&◌, true≢false}
use Prim.Native.Nat.{ℕ, suc, ◌-◌, ◌^◌, ◌≤◌, ◌<◌}
use native.Mathlib.Omega.{arith}
use borrow.Author.Tests.{leb-true, eqb-false, lt-leb}
use lib.Dec.{leb, eqb}
use lib.IntN.{ℤ, pos, negsuc, nat_abs}
use lib.Signed.{le_z}
use Rattle.meaning.specs.Methods.{Method, tail, round, absolute, digits, digit_count}
use Rattle.meaning.specs.Questions.{accepted, ask, setting_in_range, method_of, trim_questions}

abbrev pub Ready : Method → Type 0
Ready (tail c k) = Unit {0}
Ready (round k) = Unit {0}
Ready (absolute q) = Unit {0}
Ready (digits n) = 1 ≤ n

either : (b : Bool) (x y : Method) → Ready x → (b ≡ false → Ready y) → Ready (cond b x y)
either true x y h k = h
either false x y h k = k refl

-- two tests that both pass
pub and_first : (a b : Bool) → a && b ≡ true → a ≡ true
and_first true b e = refl
and_first false b e = e

pub and_second : (a b : Bool) → a && b ≡ true → b ≡ true
and_second true b e = e
and_second false b e = absurd (true≢false (sym e))

-- and one that never does
pub and_false : (a : Bool) → (a && false) ≡ false
and_false true = refl
and_false false = refl

positive : (s : ℤ) → le_z (pos 1) s ≡ true → 1 ≤ nat_abs s
positive (pos k) e = leb-true 1 k e
positive (negsuc k) e = absurd (true≢false (sym e))

module _ (F X method : ℕ) (s : ℤ) where
  ready : setting_in_range F X method s ≡ true → Ready (method_of F X method s)
  unfolding method_of setting_in_range
  ready r =
      either (eqb method 0) _ _ tt (λ a.
      either (eqb method 1) _ _ tt (λ b.
      either (eqb method 2) _ _ tt (λ c.
      either (eqb method 3) _ _ tt (λ d.
      either (eqb method 4) _ _ tt (λ e.
      either (eqb method 5) _ _ tt (λ f.
      last (eqb-false method 0 a) (eqb-false method 1 b) (eqb-false method 2 c) (eqb-false method 3 d) (eqb-false method 4 e) f))))))
    where
      last : ¬ (method ≡ 0) → ¬ (method ≡ 1) → ¬ (method ≡ 2) → ¬ (method ≡ 3) → ¬ (method ≡ 4) → eqb method 5 ≡ false → 1 ≤ nat_abs s
      last a b c d e f =
          let k : 4 < method = omega arith in
          let t : le_z (pos 1) s && le_z s (pos (digit_count 10 (2 ^ suc F) - 1)) ≡ true = rw (lt-leb method 4 k, f) at r in
          positive s (and_first (le_z (pos 1) s) (le_z s (pos (digit_count 10 (2 ^ suc F) - 1))) t)

  pub accepted_ready : (x : Method) → trim_questions F X method s ≡ accepted x → Ready x
  unfolding trim_questions ask
  accepted_ready x e = go (leb method 6) refl (setting_in_range F X method s) refl
    where
      go : (a : Bool) → leb method 6 ≡ a → (b : Bool) → setting_in_range F X method s ≡ b → Ready x
      go true p true q = let y = simp (p, q) at e in let m : method_of F X method s ≡ x = cc in subst Ready m (ready q)
      go true p false q = let y = simp (p, q) at e in let z : ◌≡◌ {A = ℕ} 0 1 = cc in absurd (omega arith)
      go false p true q = let y = simp (p, q) at e in let z : ◌≡◌ {A = ℕ} 0 1 = cc in absurd (omega arith)
      go false p false q = let y = simp (p, q) at e in let z : ◌≡◌ {A = ℕ} 0 1 = cc in absurd (omega arith)
