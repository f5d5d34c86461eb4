-- What the leaves compute, as facts about whole numbers.
use Rattle.std.proofs.Common.{◌≡◌, ℕ, zero, suc, ◌+◌, ◌-◌, ◌*◌, ◌/◌, ◌%◌, ◌^◌, ◌<◌, ◌≤◌, min, ◌≢◌, sym, refl, ap, ◌∙◌, ap₂, mul-le-mul_right, mod-lt, mod-eq_of_lt, mul_assoc, mul-lt-mul_of_pos_right, div-add-mod', zero-mul, div-le_self, div-mul-le_self, mul-div_cancel, arith, lit<, pow_pos, pow_mono, eq-eqb, ne_eqb}
use native.Mathlib.Nat.{mul-div-mul_right, mul-mod_left, div-eq_of_lt, mul-add-mod_self_right}
use native.Mathlib.Decide.{dec_le, ℕ_discrete}
use mathlib.Core.Bool.{Bool, true, false, not, cond}
use mir.Val.{bool_byte}
use lib.Dec.{eqb}
use lib.Arith.{digits_mod}
use Rattle.meaning.specs.Readings.{spacing_exp, size, sign, magnitude}
use Rattle.meaning.proofs.Sizes.{Form, form, size_form}
use Rattle.meaning.proofs.Powers.{pow_split}
use Rattle.codes.specs.declared.Cut.{Cut}
use Rattle.codes.specs.Cut.{flag_of, lost_of, cut_of, reading_of, bump}
use Rattle.codes.proofs.Sum.{word_pos, word_neg}

-- ---- the significand

pub sig_is : (m x : ℕ) → x ≡ spacing_exp 23 m → (x * 8388608 ≤ m) × (m - x * 8388608 < 2 * 2 ^ 23)
sig_is m x e = let f : Form 23 m = form 23 m in omega (arith, f.is, f.below, e)

pub sig_size : (m x : ℕ) → x ≡ spacing_exp 23 m → (m - x * 8388608) * 2 * 2 ^ x ≡ 2 * size 23 m
sig_size m x e =
    let f : Form 23 m = form 23 m in
    let z : m - x * 8388608 ≡ f.sig = omega (arith, f.is, e) in
    rw (z, size_form 23 m f, e) (omega arith)

-- ---- flags

pub flag_same : (a b : ℕ) → a ≡ b → flag_of a b ≡ 0
unfolding flag_of
flag_same a b h = rw (eq-eqb a b h) refl

pub flag_other : (a b : ℕ) → a ≢ b → flag_of a b ≡ 1
unfolding flag_of
flag_other a b h = rw (ne_eqb a b h) refl

-- a flag as the code makes it
pub flag_not : (a b : ℕ) → bool_byte (not (eqb a b)) ≡ flag_of a b
unfolding flag_of
flag_not a b = go (eqb a b)
  where
    go : (same : Bool) → bool_byte (not same) ≡ cond same 0 1
    go true = refl
    go false = refl

flag_iff : (p q a b : ℕ) → (p ≡ q → a ≡ b) → (a ≡ b → p ≡ q) → flag_of p q ≡ flag_of a b
flag_iff p q a b f g = go (ℕ_discrete p q)
  where
    go : Dec (p ≡ q) → flag_of p q ≡ flag_of a b
    go (yes h) = flag_same p q h ∙ sym (flag_same a b (f h))
    go (no h) = flag_other p q h ∙ sym (flag_other a b (λ e. h (g e)))

-- ---- cutting a size

mod_scale : (n g k : ℕ) → 0 < g → 0 < k → n * k % (g * k) ≡ n % g * k
mod_scale n g k p l =
    ap (λ (x : ℕ). x % (g * k)) e ∙ digits_mod (n / g) (mul-lt-mul_of_pos_right (mod-lt n p) l)
  where
    e : n * k ≡ n / g * (g * k) + n % g * k
    e = ap (λ (x : ℕ). x * k) (sym (div-add-mod' n g)) ∙ omega arith

unfoldable pub make : ℕ → ℕ → Cut
make w l = record { word = w; lost = l }

cut_is : (t g w l : ℕ) → w ≡ t / g % 2 ^ 64 → l ≡ lost_of t g → make w l ≡ cut_of 0 t g
unfolding cut_of make
cut_is t g w l a b = ap₂ make (a ∙ sym (word_pos 0 t g refl)) b

pub cut_up : (a x s : ℕ) → s ≤ x → make (a * 2 ^ (x - s) % 2 ^ 64) 0 ≡ cut_of 0 (a * 2 ^ x) (2 ^ s)
unfolding lost_of
cut_up a x s h =
    cut_is (a * 2 ^ x) (2 ^ s) (a * 2 ^ (x - s) % 2 ^ 64) 0 (ap (λ (y : ℕ). y % 2 ^ 64) (sym (mul-div_cancel (a * 2 ^ (x - s)) (pow_pos s)) ∙ ap (λ (y : ℕ). y / 2 ^ s) e))
    (sym (flag_same (a * 2 ^ x % 2 ^ s) 0 (ap (λ (y : ℕ). y % 2 ^ s) (sym e) ∙ mul-mod_left (a * 2 ^ (x - s)) (2 ^ s))))
  where
    e : a * 2 ^ (x - s) * 2 ^ s ≡ a * 2 ^ x
    e = rw (pow_split x s h) (mul_assoc a (2 ^ (x - s)) (2 ^ s))

-- a small number of units, cut by d digits or by 63 where d is more
down_word : (a d : ℕ) → a < 2 ^ 25 → a / 2 ^ min d 63 ≡ a / 2 ^ d
down_word a d h = go (dec_le d 63)
  where
    go : Dec (d ≤ 63) → a / 2 ^ min d 63 ≡ a / 2 ^ d
    go (yes l) = let e : min d 63 ≡ d = omega arith in rw e refl
    go (no l) =
        let e : min d 63 ≡ 63 = omega arith in
        rw e (div-eq_of_lt (omega arith) ∙ sym (div-eq_of_lt (omega (arith, pow_mono {i = 25} {j = d} (omega arith)))))

down_back : (a d : ℕ) → a < 2 ^ 25 → a / 2 ^ min d 63 * 2 ^ min d 63 ≡ a / 2 ^ d * 2 ^ d
down_back a d h = go (dec_le d 63)
  where
    go : Dec (d ≤ 63) → a / 2 ^ min d 63 * 2 ^ min d 63 ≡ a / 2 ^ d * 2 ^ d
    go (yes l) = let e : min d 63 ≡ d = omega arith in rw e refl
    go (no l) =
        let z : a / 2 ^ d ≡ 0 = div-eq_of_lt (omega (arith, pow_mono {i = 25} {j = d} (omega arith))) in
        rw (down_word a d h, z, zero-mul, zero-mul) refl

pub cut_down : (a x s d l : ℕ) → a < 2 ^ 25 → x < s → d ≡ min (s - x) 63 → l ≡ flag_of (a / 2 ^ d * 2 ^ d % 2 ^ 64) a
    → make (a / 2 ^ d) l ≡ cut_of 0 (a * 2 ^ x) (2 ^ s)
unfolding lost_of
cut_down a x s d l small h e f = cut_is (a * 2 ^ x) (2 ^ s) (a / 2 ^ d) l word lost
  where
    D : ℕ
    D = s - x

    G : ℕ
    G = 2 ^ D

    g_is : 2 ^ s ≡ G * 2 ^ x
    g_is = pow_split s x (omega arith)

    div : a * 2 ^ x / 2 ^ s ≡ a / G
    div = rw g_is (mul-div-mul_right a G (pow_pos x))

    over : a * 2 ^ x % 2 ^ s ≡ a % G * 2 ^ x
    over = rw g_is (mod_scale a G (2 ^ x) (pow_pos D) (pow_pos x))

    less : a / G < 2 ^ 64
    less = omega (arith, div-le_self a G)

    word : a / 2 ^ d ≡ a * 2 ^ x / 2 ^ s % 2 ^ 64
    word = ap (λ (y : ℕ). a / 2 ^ y) e ∙ down_word a D small ∙ sym (mod-eq_of_lt less) ∙ ap (λ (y : ℕ). y % 2 ^ 64) (sym div)

    back : a / 2 ^ d * 2 ^ d % 2 ^ 64 ≡ a / G * G
    back = ap (λ (y : ℕ). a / 2 ^ y * 2 ^ y % 2 ^ 64) e ∙ ap (λ (y : ℕ). y % 2 ^ 64) (down_back a D small) ∙ mod-eq_of_lt (omega (arith, div-mul-le_self a G))

    whole : a / G * G + a % G ≡ a
    whole = div-add-mod' a G

    to : a / G * G ≡ a → a % G * 2 ^ x ≡ 0
    to z = let y : a % G ≡ 0 = omega (arith, whole) in rw (y, zero-mul) refl

    from : a % G * 2 ^ x ≡ 0 → a / G * G ≡ a
    from z = go (ℕ_discrete (a % G) 0)
      where
        go : Dec (a % G ≡ 0) → a / G * G ≡ a
        go (yes y) = omega (arith, whole)
        go (no y) = absurd (omega (arith, mul-lt-mul_of_pos_right {m = 0} {n = a % G} {k = 2 ^ x} (omega arith) (pow_pos x)))

    lost : l ≡ flag_of (a * 2 ^ x % 2 ^ s) 0
    lost = f ∙ rw (back, over) (flag_iff (a / G * G) a (a % G * 2 ^ x) 0 to from)

-- ---- the sign

pub reading_pos : (w s : ℕ) → w < 2147483648 → cut_of 0 (2 * size 23 (magnitude 23 8 w)) (2 ^ s) ≡ reading_of w s
unfolding reading_of sign
reading_pos w s h =
    let z : w / 2 ^ 31 ≡ 0 = div-eq_of_lt h in
    ap (λ (x : ℕ). cut_of x (2 * size 23 (magnitude 23 8 w)) (2 ^ s)) (sym z)

-- the opposite t of a word w, less a flag l, in words below M
neg_word : (M t w l : ℕ) → t < M → w < M → l ≤ 1 → 2 ≤ M → (t + w) % M ≡ 0 → (t + (M - l)) % M ≡ (2 * M - w - l) % M
neg_word M t w l b c d p e = go ((t + w) / M) (ap (λ (y : ℕ). (t + w) / M * M + y) (sym e) ∙ div-add-mod' (t + w) M)
  where
    go : (q : ℕ) → q * M + 0 ≡ t + w → (t + (M - l)) % M ≡ (2 * M - w - l) % M
    go zero x =
        let a : t + (M - l) ≡ M - l = omega arith in
        let b : 2 * M - w - l ≡ 1 * M + (M - l) = omega arith in
        rw (a, b) (sym (mul-add-mod_self_right 1 M (M - l)))
    go (suc zero) x = ap (λ (y : ℕ). y % M) (omega arith)
    go (suc (suc q)) x = absurd (omega (arith, mul-le-mul_right {m = 2} {n = suc (suc q)} M (omega arith)))

pub lost_small : (t g : ℕ) → lost_of t g ≤ 1
unfolding lost_of
lost_small t g = go (ℕ_discrete (t % g) 0)
  where
    go : Dec (t % g ≡ 0) → flag_of (t % g) 0 ≤ 1
    go (yes h) = rw (flag_same (t % g) 0 h) (omega arith)
    go (no h) = rw (flag_other (t % g) 0 h) (omega arith)

pub reading_neg : (w s t : ℕ) (c : Cut) → 2147483648 ≤ w → w < 4294967296 → t < 2 ^ 64 → c ≡ cut_of 0 (2 * size 23 (magnitude 23 8 w)) (2 ^ s)
    → (t + c.word) % 2 ^ 64 ≡ 0 → make ((t + (2 ^ 64 - c.lost)) % 2 ^ 64) c.lost ≡ reading_of w s
unfolding reading_of cut_of make sign
reading_neg w s t c a b tl e f =
    ap₂ make (nw ∙ sym (word_neg (w / 2 ^ 31) T g (omega arith))) lost
  where
    T : ℕ
    T = 2 * size 23 (magnitude 23 8 w)

    g : ℕ
    g = 2 ^ s

    word : c.word ≡ T / g % 2 ^ 64
    word = ap (λ (x : Cut). x.word) e ∙ word_pos 0 T g refl

    lost : c.lost ≡ lost_of T g
    lost = ap (λ (x : Cut). x.lost) e

    nw : (t + (2 ^ 64 - c.lost)) % 2 ^ 64 ≡ (2 * 2 ^ 64 - T / g % 2 ^ 64 - lost_of T g) % 2 ^ 64
    nw = rw (← lost, ← word) (neg_word (2 ^ 64) t c.word c.lost tl (rw word (mod-lt (T / g) (lit< tt))) (rw lost (lost_small T g)) (omega arith) f)

pub bump_small : (d k l : ℕ) → bump d k l ≤ 1
unfolding bump
bump_small d k l = go (ℕ_discrete l 0)
  where
    go : Dec (l ≡ 0) → bump d k l ≤ 1
    go (yes h) = rw (eq-eqb l 0 h) (omega arith)
    go (no h) = rw (ne_eqb l 0 h) (omega arith)
