pub mod Common
pub mod Calls
mod Examples
mod ExamplesOther
mod Forms
mod Loops
mod OperationForms
mod Puts
mod RoleRows
mod SchemaForms
mod Tags
mod TreeForms
mod ValueForms
