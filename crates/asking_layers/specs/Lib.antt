-- What the questions on layers give the code.
pub mod LayerAsked
