pub mod Calling
pub mod Desks
pub mod Firsts
pub mod Noting
pub mod Offering
pub mod Opening
pub mod Rooms
pub mod Vecs
