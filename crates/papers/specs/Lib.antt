-- Claims of the papers about one reading and one call, or about one layer, as statements about document 01's definitions; docs/PAPERS.md is their index. 000 is Silver and
-- Zender (layer packing), 001 Zender (Bit Grooming), 002 Delaunay et al. (Digit Rounding), 003 Kouznetsov (precision trimming). CasesFar is a table for tests.
pub mod Moved
pub mod Bounds
pub mod Decimal
pub mod DigitRounding
pub mod Grooming
pub mod Repetition
pub mod Halfshaving
pub mod LayerBounds
pub mod Unpacked
pub mod Listings
pub mod Unbiased
pub mod Cases
pub mod CasesFar
pub mod Papers
