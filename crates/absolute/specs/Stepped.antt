-- Method 5 on a finite magnitude m, with the unit 2 ^ q least spacings: the new magnitude, and 1 where it was clipped.
use Rattle.std.specs.Prelude.{◌≡◌, cond, ℕ}
use Rattle.meaning.specs.Methods.{absolute, clips, new_magnitude}

pub record Stepped (F X q m magnitude clipped : ℕ) : Type 0 where
  pub new : magnitude ≡ new_magnitude F X (absolute q) 0 m
  pub clip : clipped ≡ cond (clips F X (absolute q) m) 1 0
