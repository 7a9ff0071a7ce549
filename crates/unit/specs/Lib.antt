-- What a unit means, and the faults that it tells.
pub mod Faults
pub mod Medium
pub mod Laws
pub mod Copying
