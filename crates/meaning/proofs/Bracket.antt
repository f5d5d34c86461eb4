-- The two points of the grid of sizes with the step 2 ^ Q that a magnitude lies between: one step apart, and fixed by every rounding whose unit is at most 2 ^ Q.
use mathlib.Core.Path.{◌≡◌, refl, sym, ap, ap₂, ◌∙◌, subst}
use mathlib.Core.Logic.{◌⊎◌, inr}
use Prim.Native.Nat.{ℕ, suc, ◌+◌, ◌-◌, ◌*◌, ◌^◌, ◌≤◌, ◌<◌}
use native.Mathlib.Nat.{mul-le-mul_right, mul_assoc, one-mul, zero-mul, add-mul, le_refl, pow-zero}
use native.Mathlib.Decide.{dec_le, ℕ_discrete}
use native.Mathlib.Omega.{arith}
use lib.Pow.{pow_pos, pow-add}
use Rattle.meaning.specs.Readings.{spacing_exp, size, distance}
use Rattle.meaning.proofs.Sizes.{size_le, size_mono, size_at, spacing_at_lem, size_small, Form, form}
use Rattle.meaning.proofs.Powers.{pow_split}
use Rattle.meaning.proofs.Grid.{Grid, grid}
use Rattle.meaning.proofs.Rounding.{Mult}

pub mult_down : {n : ℕ} (a b : ℕ) → b ≤ a → Mult (2 ^ a) n → Mult (2 ^ b) n
mult_down {n} a b h x =
    record {
      times = x.times * 2 ^ (a - b);
      is = x.is ∙ ap (λ (y : ℕ). x.times * y) (pow_split a b h) ∙ sym (mul_assoc x.times (2 ^ (a - b)) (2 ^ b));
    }

mult_add : {m n g : ℕ} → Mult g m → Mult g n → Mult g (m + n)
mult_add {m} {n} {g} x y =
    record { times = x.times + y.times; is = ap₂ (λ (a b : ℕ). a + b) x.is y.is ∙ sym (add-mul x.times y.times g) }

multiple : (j g : ℕ) → Mult g (j * g)
multiple j g = record { times = j; is = refl }

-- v is on the grid of every unit up to 2 ^ Q, taken where the spacing is 2 ^ c: its size for absolute units, its pattern for tails
pub record Point (F c Q v : ℕ) : Type 0 where
  pub grid : Mult (2 ^ Q) (size F v)
  pub tail : (t : ℕ) → t ≤ F → t + c ≤ Q → Mult (2 ^ t) v

pub record Bracket (F m Q : ℕ) : Type 0 where
  pub low : ℕ
  pub high : ℕ
  pub under : low ≤ m
  pub over : m ≤ high
  pub low_point : Point F (spacing_exp F m) Q low
  pub high_point : Point F (spacing_exp F m) Q high
  pub close : (y : ℕ) → low ≤ y → y ≤ high → distance (size F m) (size F y) < 2 ^ Q
  -- where the step is at most 2 ^ F spacings, the spacing is nowhere smaller than at m
  pub spaced : Q - spacing_exp F m ≤ F → spacing_exp F m ≤ spacing_exp F low

module _ (F m Q : ℕ) where
  -- m itself is a point
  here : Point F (spacing_exp F m) Q m → Bracket F m Q
  unfolding distance
  here p =
      record {
        low = m;
        high = m;
        under = le_refl m;
        over = le_refl m;
        low_point = p;
        high_point = p;
        close = λ y a b. let e : y ≡ m = omega arith in rw e (omega (arith, pow_pos Q));
        spaced = λ d. le_refl (spacing_exp F m);
      }

  -- m lies strictly between two points, one step apart
  inside : (l h : ℕ) → l < m → m < h → size F h ≤ size F l + 2 ^ Q → (Q - spacing_exp F m ≤ F → spacing_exp F m ≤ spacing_exp F l) → Point F (spacing_exp F m) Q l → Point F (spacing_exp F m) Q h → Bracket F m Q
  unfolding distance
  inside l h a b s d p q =
      record {
        low = l;
        high = h;
        under = omega arith;
        over = omega arith;
        low_point = p;
        high_point = q;
        close = λ y x z. omega (arith, size_mono F a, size_mono F b, size_le F x, size_le F z);
        spaced = d;
      }

  -- the unit is at most 2 ^ F spacings: a point of the closed binade of m
  near_point : (c j : ℕ) → Q - c ≤ F → (c ≡ 0) ⊎ (2 ^ F ≤ j * 2 ^ (Q - c)) → j * 2 ^ (Q - c) ≤ 2 * 2 ^ F → Point F c Q (c * 2 ^ F + j * 2 ^ (Q - c))
  near_point c j d x y =
      record {
        grid = mult_down (Q - c + c) Q (omega arith) (record {
          times = j;
          is = size_at F c (j * 2 ^ (Q - c)) x y ∙ mul_assoc j (2 ^ (Q - c)) (2 ^ c) ∙ ap (λ (z : ℕ). j * z) (sym (pow-add 2 (Q - c) c));
        });
        tail = λ t a b. mult_add (mult_down F t a (multiple c (2 ^ F))) (mult_down (Q - c) t (omega arith) (multiple j (2 ^ (Q - c))));
      }

  near : Q - spacing_exp F m ≤ F → Bracket F m Q
  near d = go (ℕ_discrete b.rest 0) (dec_le c Q)
    where
      c : ℕ
      c = spacing_exp F m

      b : Grid F m (Q - c)
      b = grid F m (Q - c) d

      g : ℕ
      g = 2 ^ (Q - c)

      low_point : Point F c Q (c * 2 ^ F + b.whole * g)
      low_point = near_point c b.whole d b.low (omega (arith, b.top))

      go : Dec (b.rest ≡ 0) → Dec (c ≤ Q) → Bracket F m Q
      go (yes z) x = here (subst (λ (v : ℕ). Point F c Q v) (let e : c * 2 ^ F + b.whole * g ≡ m = omega (arith, b.is) in e) low_point)
      go (no z) (yes x) =
          inside (c * 2 ^ F + b.whole * g) (c * 2 ^ F + suc b.whole * g)
          (omega (arith, b.is)) (omega (arith, b.is, b.less))
          (omega (arith, pow_split Q c x, size_at F c (b.whole * g) b.low (omega (arith, b.top)), size_at F c (suc b.whole * g) b.high b.top))
          (λ _. spacing_at_lem F c (b.whole * g) b.low) low_point (near_point c (suc b.whole) d b.high b.top)
      go (no z) (no x) =
          let e : Q - c ≡ 0 = omega arith in
          absurd (z (omega (arith, b.less, ap (λ (x : ℕ). 2 ^ x) e, pow-zero 2)))

  -- the unit is larger
  zero_point : Point F (spacing_exp F m) Q 0
  zero_point =
      record { grid = record { times = 0; is = size_small F 0 (pow_pos F) ∙ sym (zero-mul (2 ^ Q)) }; tail = λ t a b. record { times = 0; is = sym (zero-mul (2 ^ t)) } }

  beyond : F < Q - spacing_exp F m → Form F m → Bracket F m Q
  beyond d f = go (ℕ_discrete m 0)
    where
      top : ℕ
      top = (Q - F) * 2 ^ F + 2 ^ F

      top_size : size F top ≡ 2 ^ Q
      top_size = size_at F (Q - F) (2 ^ F) (inr (le_refl (2 ^ F))) (omega arith) ∙ omega (arith, pow_split Q F (omega arith))

      top_point : Point F (spacing_exp F m) Q top
      top_point =
          record {
            grid = record { times = 1; is = top_size ∙ sym (one-mul (2 ^ Q)) };
            tail = λ t a b. mult_add (mult_down F t a (multiple (Q - F) (2 ^ F))) (mult_down F t a (record { times = 1; is = sym (one-mul (2 ^ F)) }));
          }

      go : Dec (m ≡ 0) → Bracket F m Q
      go (yes z) = here (subst (λ (v : ℕ). Point F (spacing_exp F m) Q v) (sym z) zero_point)
      go (no z) =
          inside 0 top (omega arith) (omega (arith, f.is, f.below, mul-le-mul_right {m = suc (spacing_exp F m)} {n = Q - F} (2 ^ F) (omega arith)))
          (omega (arith, top_size)) (λ l. absurd (omega arith)) zero_point top_point

  pub bracket : Bracket F m Q
  bracket = go (dec_le (Q - spacing_exp F m) F)
    where
      go : Dec (Q - spacing_exp F m ≤ F) → Bracket F m Q
      go (yes h) = near h
      go (no h) = beyond (omega arith) (form F m)
