pub mod WorkItems
