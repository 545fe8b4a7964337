pub mod LawsLines
