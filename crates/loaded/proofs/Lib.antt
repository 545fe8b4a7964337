pub mod LawsCopied
pub mod LawsPacking
pub mod LawsHeader
pub mod LawsBody
pub mod LawsOperands
