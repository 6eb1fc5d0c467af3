-- Theorems on the answer that rest on the definitions of specs/.
pub mod SameAnswer
