pub mod OnlyWrite
pub mod RightWrites
