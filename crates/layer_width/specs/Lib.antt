-- A width that packing takes.
pub mod Width
