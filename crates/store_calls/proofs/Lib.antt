pub mod Payable
