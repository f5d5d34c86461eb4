-- The decade and the tail of a single by its exponent field, and tables that are filled in order.
pub mod Fields
