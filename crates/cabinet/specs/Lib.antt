-- What a cabinet begins with.
pub mod Begin
