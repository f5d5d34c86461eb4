-- What is left once some methods are told apart, by their numbers.
use Rattle.std.proofs.Common.{◌≡◌, ◌≢◌, ℕ, ◌<◌, ◌≤◌, refl, arith}
use Rattle.method.specs.Kinds.{number_of}
use Rattle.method.specs.declared.Method.{Method}
use Rattle.method.specs.declared.Method.TheVariants as variants
use Rattle.reading.specs.Tails.{Constants}
use Rattle.loops.specs.Methods.{add_by, keep_of, Fitting}

pub others_add : (m : Method) (c : Constants) → m ≢ variants.Set → m ≢ variants.Halfshave → add_by (number_of m) c ≡ 0
unfolding add_by
others_add variants.Shave c a b = refl
others_add variants.Set c a b = absurd (a refl)
others_add variants.Groom c a b = refl
others_add variants.Halfshave c a b = absurd (b refl)
others_add variants.Round c a b = refl
others_add variants.Absolute c a b = refl
others_add variants.Digits c a b = refl

pub others_keep : (F : ℕ) (m : Method) (n : ℕ) → m ≢ variants.Absolute → m ≢ variants.Digits → keep_of F (number_of m) n ≡ n
unfolding keep_of
others_keep F variants.Shave n a b = refl
others_keep F variants.Set n a b = refl
others_keep F variants.Groom n a b = refl
others_keep F variants.Halfshave n a b = refl
others_keep F variants.Round n a b = refl
others_keep F variants.Absolute n a b = absurd (a refl)
others_keep F variants.Digits n a b = absurd (b refl)

pub keep_fits : (F most : ℕ) (m : Method) (n : ℕ) → Fitting (number_of m) n F most → keep_of F (number_of m) n ≤ F
unfolding keep_of
keep_fits F most variants.Shave n h = h.keep (omega arith)
keep_fits F most variants.Set n h = h.keep (omega arith)
keep_fits F most variants.Groom n h = h.keep (omega arith)
keep_fits F most variants.Halfshave n h = h.keep (omega arith)
keep_fits F most variants.Round n h = h.keep (omega arith)
keep_fits F most variants.Absolute n h = omega arith
keep_fits F most variants.Digits n h = omega arith

-- methods 0 to 3
pub tails_only : (m : Method) → m ≢ variants.Digits → m ≢ variants.Absolute → m ≢ variants.Round → number_of m < 4
tails_only variants.Shave a b c = omega arith
tails_only variants.Set a b c = omega arith
tails_only variants.Groom a b c = omega arith
tails_only variants.Halfshave a b c = omega arith
tails_only variants.Round a b c = absurd (c refl)
tails_only variants.Absolute a b c = absurd (b refl)
tails_only variants.Digits a b c = absurd (a refl)

pub not_groom : (m : Method) → m ≢ variants.Groom → number_of m ≢ 2
not_groom variants.Shave a b = omega arith
not_groom variants.Set a b = omega arith
not_groom variants.Groom a b = a refl
not_groom variants.Halfshave a b = omega arith
not_groom variants.Round a b = omega arith
not_groom variants.Absolute a b = omega arith
not_groom variants.Digits a b = omega arith
