-- What an opening, an edit or an undo leaves of lent bytes (LentEdits), and that it is a book which the next call takes (LeavesBook).
pub mod LentEdits
pub mod LeavesBook
