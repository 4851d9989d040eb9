pub mod IntegerConstant
pub mod CharacterConstant
pub mod Constant
