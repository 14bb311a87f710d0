pub mod Forms
pub mod PieceForms
pub mod DeclarationForms
pub mod TypeForms
pub mod ScriptForms
pub mod OperationForms
pub mod Shown
pub mod NamesInForms
