-- The book's layout in words (Layout) and bytes (Bytes, with what 25 tests of them), and their laws: a sound book's bytes read back (CodecLaws), the layout test part by
-- part (Laid), and a part of a book written in place (BookPatches).
pub mod Layout
pub mod BookWords
pub mod ReadBack
pub mod WordSizes
pub mod Bytes
pub mod Laid
pub mod RunPatches
pub mod CodecLaws
pub mod BookPatches
