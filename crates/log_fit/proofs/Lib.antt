pub mod Common
mod Going
mod NamedRows
mod Telling
mod Examples
mod Parting
