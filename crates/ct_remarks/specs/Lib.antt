pub mod Standing
pub mod RefusedStatements
pub mod Remarks
