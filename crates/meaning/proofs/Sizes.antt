-- Sizes of magnitudes: the two forms of a magnitude, order, and the way back from a size. Assumes nothing.
use mathlib.Core.Path.{◌≡◌, refl, sym, ap, ◌∙◌}
use mathlib.Core.Logic.{◌⊎◌, inl, inr}
use mathlib.Core.Bool.{Bool, true, false, cond}
use Prim.Native.Nat.{ℕ, zero, suc, max, ◌+◌, ◌-◌, ◌*◌, ◌/◌, ◌%◌, ◌^◌, ◌≤◌, ◌<◌}
use native.Mathlib.Nat.{mod-lt, le-div_iff_mul-le, div-add-mod', zero-mul, zero-add, pow-zero, mul-one, mul-le-mul_right, mul-le-mul, pow-suc, mul-div_cancel, mul_assoc, le_refl, le_of_lt, le-add_right, mul-lt-mul_of_pos_right}
use native.Mathlib.Numerals.{sub-one}
use native.Mathlib.Decide.{dec_lt}
use native.Mathlib.Omega.{arith}
use lib.Dec.{ltb, eqb-suc-zero}
use borrow.Author.Tests.{ltb-true, ltb-false, lt-ltb, le-ltb}
use lib.Pow.{pow_pos, pow_mono, high, low, shr_mono}
use Rattle.meaning.specs.Readings.{exponent_field, fraction, spacing_exp, size, encode}

module _ (F : ℕ) where
  -- the two fields of e * 2 ^ F + r
  exponent_of_lem : (e r : ℕ) → r < 2 ^ F → exponent_field F (e * 2 ^ F + r) ≡ e
  unfolding exponent_field
  exponent_of_lem e r h = high e F h

  fraction_of : (e r : ℕ) → r < 2 ^ F → fraction F (e * 2 ^ F + r) ≡ r
  unfolding fraction
  fraction_of e r h = low e F h

  size_normal : (e r : ℕ) → r < 2 ^ F → size F (suc e * 2 ^ F + r) ≡ (2 ^ F + r) * 2 ^ e
  unfolding size
  size_normal e r h = rw (exponent_of_lem (suc e) r h, fraction_of (suc e) r h, eqb-suc-zero, sub-one) refl

  pub size_small : (r : ℕ) → r < 2 ^ F → size F r ≡ r
  unfolding size
  size_small r h =
      let e : exponent_field F r ≡ 0 = ap (λ (x : ℕ). exponent_field F x) (sym (zero-add r) ∙ ap (λ (x : ℕ). x + r) (sym (zero-mul (2 ^ F)))) ∙ exponent_of_lem 0 r h in
      let f : fraction F r ≡ r = ap (λ (x : ℕ). fraction F x) (sym (zero-add r) ∙ ap (λ (x : ℕ). x + r) (sym (zero-mul (2 ^ F)))) ∙ fraction_of 0 r h in
      rw (e, f) refl

  -- ---- a magnitude as c * 2 ^ F + s, over a closed binade: the size is s * 2 ^ c

  at_normal : (c s : ℕ) → 2 ^ F ≤ s → s < 2 * 2 ^ F → size F (c * 2 ^ F + s) ≡ s * 2 ^ c
  at_normal c s l h =
      let r : ℕ = s - 2 ^ F in
      let e : c * 2 ^ F + s ≡ suc c * 2 ^ F + r = omega arith in
      let k : r < 2 ^ F = omega arith in
      let f : 2 ^ F + r ≡ s = omega arith in
      rw e (size_normal c r k ∙ ap (λ (x : ℕ). x * 2 ^ c) f)

  at_top : (c : ℕ) → size F (c * 2 ^ F + 2 * 2 ^ F) ≡ 2 * 2 ^ F * 2 ^ c
  at_top c =
      let e : c * 2 ^ F + 2 * 2 ^ F ≡ suc (suc c) * 2 ^ F + 0 = omega arith in
      rw e (size_normal (suc c) 0 (pow_pos F) ∙ rw (pow-suc 2 c) (omega arith))

  pub size_at : (c s : ℕ) → (c ≡ 0) ⊎ (2 ^ F ≤ s) → s ≤ 2 * 2 ^ F → size F (c * 2 ^ F + s) ≡ s * 2 ^ c
  size_at c s d h = go d (dec_lt s (2 ^ F)) (dec_lt s (2 * 2 ^ F))
    where
      normal : 2 ^ F ≤ s → Dec (s < 2 * 2 ^ F) → size F (c * 2 ^ F + s) ≡ s * 2 ^ c
      normal l (yes k) = at_normal c s l k
      normal l (no k) = let e : s ≡ 2 * 2 ^ F = omega arith in rw e (at_top c)

      go : (c ≡ 0) ⊎ (2 ^ F ≤ s) → Dec (s < 2 ^ F) → Dec (s < 2 * 2 ^ F) → size F (c * 2 ^ F + s) ≡ s * 2 ^ c
      go (inr l) x y = normal l y
      go (inl z) (no l) y = normal (omega arith) y
      go (inl z) (yes l) y = rw (z, zero-mul, zero-add, pow-zero, mul-one) (size_small s l)

  -- every magnitude has that form, with c its spacing_exp
  pub record Form (m : ℕ) : Type 0 where
    pub sig : ℕ
    pub is : m ≡ spacing_exp F m * 2 ^ F + sig
    pub below : sig < 2 * 2 ^ F
    pub above : (spacing_exp F m ≡ 0) ⊎ (2 ^ F ≤ sig)

  pub form : (m : ℕ) → Form m
  unfolding spacing_exp exponent_field
  form m = go (m / 2 ^ F) refl
    where
      r : m % 2 ^ F < 2 ^ F
      r = mod-lt m (pow_pos F)

      go : (e : ℕ) → m / 2 ^ F ≡ e → Form m
      go zero q =
          let k : m / 2 ^ F * 2 ^ F + m % 2 ^ F ≡ m = div-add-mod' m (2 ^ F) in
          let z : max (m / 2 ^ F) 1 - 1 ≡ 0 = omega arith in
          record {
            sig = m;
            is = rw (z, zero-mul, zero-add) refl;
            below = let k' : 0 * 2 ^ F + m % 2 ^ F ≡ m = rw q at k in omega (arith, r);
            above = inl z;
          }
      go (suc e) q =
          let k : suc e * 2 ^ F + m % 2 ^ F ≡ m = rw q at (div-add-mod' m (2 ^ F)) in
          let z : max (m / 2 ^ F) 1 - 1 ≡ e = omega arith in
          record { sig = 2 ^ F + m % 2 ^ F; is = rw z (omega arith); below = omega (arith, r); above = inr (omega arith) }

  pub size_form : (m : ℕ) (f : Form m) → size F m ≡ f.sig * 2 ^ spacing_exp F m
  size_form m f = ap (λ (x : ℕ). size F x) f.is ∙ size_at (spacing_exp F m) f.sig f.above (omega arith)

  -- ---- spacings and sizes grow with magnitudes

  pub spacing_mono : {m n : ℕ} → m ≤ n → spacing_exp F m ≤ spacing_exp F n
  unfolding spacing_exp exponent_field
  spacing_mono h = omega (arith, shr_mono F h)

  pub spacing_at_lem : (c s : ℕ) → (c ≡ 0) ⊎ (2 ^ F ≤ s) → c ≤ spacing_exp F (c * 2 ^ F + s)
  unfolding spacing_exp exponent_field
  spacing_at_lem c s (inl z) = omega arith
  spacing_at_lem c s (inr l) = omega (arith, (le-div_iff_mul-le {k = 2 ^ F} {x = suc c} {y = c * 2 ^ F + s} (pow_pos F)).1 (omega arith))

  -- a magnitude of a higher binade has a normal significand
  normal_above : {m c : ℕ} → c < spacing_exp F m → (f : Form m) → 2 ^ F ≤ f.sig
  normal_above {m} {c} h f = go f.above
    where
      go : (spacing_exp F m ≡ 0) ⊎ (2 ^ F ≤ f.sig) → 2 ^ F ≤ f.sig
      go (inl z) = absurd (omega arith)
      go (inr l) = l

  far : (c d s r : ℕ) → c < d → s < 2 * 2 ^ F → 2 ^ F ≤ r → s * 2 ^ c < r * 2 ^ d
  far c d s r l h k =
      let a : s * 2 ^ c < 2 * 2 ^ F * 2 ^ c = mul-lt-mul_of_pos_right h (pow_pos c) in
      let b : 2 ^ F * 2 ^ suc c ≤ r * 2 ^ d = mul-le-mul k (pow_mono l) in
      omega (arith, rw (pow-suc 2 c) at b)

  pub size_mono : {m n : ℕ} → m < n → size F m < size F n
  size_mono {m} {n} h = go (form m) (form n) (dec_lt (spacing_exp F m) (spacing_exp F n)) (dec_lt (spacing_exp F n) (spacing_exp F m))
    where
      go : (f : Form m) (g : Form n) → Dec (spacing_exp F m < spacing_exp F n) → Dec (spacing_exp F n < spacing_exp F m) → size F m < size F n
      go f g (yes l) x = rw (size_form m f, size_form n g) (far (spacing_exp F m) (spacing_exp F n) f.sig g.sig l f.below (normal_above l g))
      go f g (no l) (yes k) =
          absurd (omega (arith, normal_above k f, mul-le-mul_right (2 ^ F) k, f.is, g.is, g.below))
      go f g (no l) (no k) =
          let e : spacing_exp F m ≡ spacing_exp F n = omega arith in
          let s : f.sig < g.sig = omega (arith, rw e at f.is, g.is) in
          rw (size_form m f, size_form n g, e) (mul-lt-mul_of_pos_right s (pow_pos (spacing_exp F n)))

  pub size_le : {m n : ℕ} → m ≤ n → size F m ≤ size F n
  size_le {m} {n} h = go (dec_lt m n)
    where
      go : Dec (m < n) → size F m ≤ size F n
      go (yes l) = le_of_lt (size_mono l)
      go (no l) = let e : m ≡ n = omega arith in rw e (le_refl (size F n))

  -- ---- the way back: `encode` of a size

  encode_ge : (f n : ℕ) → 2 ^ F ≤ n → 2 ^ F ≤ encode F f n
  unfolding encode
  encode_ge zero n h = h
  encode_ge (suc f) n h = go (ltb n (2 * 2 ^ F))
    where
      go : (x : Bool) → 2 ^ F ≤ cond x n (2 ^ F + encode F f (n / 2))
      go true = h
      go false = le-add_right (2 ^ F) (encode F f (n / 2))

  pub encode_mono : (f a b : ℕ) → a ≤ b → encode F f a ≤ encode F f b
  unfolding encode
  encode_mono zero a b h = h
  encode_mono (suc f) a b h = go (encode_mono f (a / 2) (b / 2) (omega arith)) (ltb a (2 * 2 ^ F)) (ltb b (2 * 2 ^ F)) refl refl
    where
      further : ℕ → ℕ
      further n = 2 ^ F + encode F f (n / 2)

      go : encode F f (a / 2) ≤ encode F f (b / 2) → (x y : Bool) → ltb a (2 * 2 ^ F) ≡ x → ltb b (2 * 2 ^ F) ≡ y → cond x a (further a) ≤ cond y b (further b)
      go ih true true p q = h
      go ih true false p q = omega (arith, ltb-true, encode_ge f (b / 2) (omega (arith, ltb-false)))
      go ih false true p q = absurd (omega (arith, ltb-true, ltb-false))
      go ih false false p q = omega arith

  pub encode_at : (f c s : ℕ) → c ≤ f → (c ≡ 0) ⊎ (2 ^ F ≤ s) → s < 2 * 2 ^ F → encode F f (s * 2 ^ c) ≡ c * 2 ^ F + s
  unfolding encode
  encode_at zero zero s h d k = rw (zero-mul, zero-add) (mul-one s)
  encode_at zero (suc c) s h d k = absurd (omega arith)
  encode_at (suc f) zero s h d k = rw (mul-one, lt-ltb s (2 * 2 ^ F) k, zero-mul, zero-add) refl
  encode_at (suc f) (suc c) s h (inl z) k = absurd (omega arith)
  encode_at (suc f) (suc c) s h (inr l) k =
      let p : 2 ^ F * 2 ≤ s * 2 ^ suc c = mul-le-mul l (pow_mono {i = 1} {j = suc c} (omega arith)) in
      let e : s * 2 ^ suc c ≡ s * 2 ^ c * 2 = rw pow-suc (sym (mul_assoc s (2 ^ c) 2)) in
      rw (le-ltb (s * 2 ^ suc c) (2 * 2 ^ F) (omega arith), e, mul-div_cancel (s * 2 ^ c) {n = 2} (omega arith), encode_at f c s (omega arith) (inr l) k)
      (omega arith)

  pub encode_size : (f m : ℕ) → spacing_exp F m ≤ f → encode F f (size F m) ≡ m
  encode_size f m h =
      let g : Form m = form m in
      ap (λ (x : ℕ). encode F f x) (size_form m g) ∙ encode_at f (spacing_exp F m) g.sig h g.above g.below ∙ sym g.is

  -- ---- and of any number: `encode` gives the largest magnitude whose size is at most it

  size_double : (m : ℕ) → 2 ^ F ≤ m → size F (2 ^ F + m) ≡ 2 * size F m
  size_double m h = go (form m) (form m).above
    where
      c : ℕ
      c = spacing_exp F m

      at : (f : Form m) → 2 ^ F ≤ f.sig → size F (2 ^ F + m) ≡ 2 * size F m
      at f l =
          let e : 2 ^ F + m ≡ suc c * 2 ^ F + f.sig = omega (arith, f.is) in
          rw (e, size_at (suc c) f.sig (inr l) (omega (arith, f.below)), size_form m f, pow-suc 2 c) (omega arith)

      go : (f : Form m) → (c ≡ 0) ⊎ (2 ^ F ≤ f.sig) → size F (2 ^ F + m) ≡ 2 * size F m
      go f (inl z) = at f (omega (arith, rw (z, zero-mul) at f.is))
      go f (inr l) = at f l

  size_own : (n : ℕ) → n ≤ 2 * 2 ^ F → size F n ≡ n
  size_own n h = rw (zero-mul, zero-add, pow-zero, mul-one) at (size_at 0 n (inl refl) h)

  pub encode_floor : (f n : ℕ) → n < 2 * 2 ^ F * 2 ^ f → (size F (encode F f n) ≤ n) × (n < size F (suc (encode F f n)))
  unfolding encode
  encode_floor zero n h = rw (size_own n (omega arith), size_own (suc n) (omega arith)) (le_refl n, le_refl (suc n))
  encode_floor (suc f) n h = go (dec_lt n (2 * 2 ^ F)) (encode_floor f (n / 2))
    where
      e : ℕ
      e = encode F f (n / 2)

      go : Dec (n < 2 * 2 ^ F) → (n / 2 < 2 * 2 ^ F * 2 ^ f → (size F e ≤ n / 2) × (n / 2 < size F (suc e))) → (size F (encode F (suc f) n) ≤ n) × (n < size F (suc (encode F (suc f) n)))
      go (yes l) ih = rw (lt-ltb n (2 * 2 ^ F) l, size_own n (omega arith), size_own (suc n) (omega arith)) (le_refl n, le_refl (suc n))
      go (no l) ih =
          let big : 2 ^ F ≤ e = encode_ge f (n / 2) (omega arith) in
          let s : suc (2 ^ F + e) ≡ 2 ^ F + suc e = omega arith in
          let r = ih (omega (arith, rw (pow-suc 2 f) at h)) in
          rw (le-ltb n (2 * 2 ^ F) (omega arith), s, size_double e big, size_double (suc e) (omega arith)) (omega (arith, r))
