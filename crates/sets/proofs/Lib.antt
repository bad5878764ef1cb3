-- a search of the set's bytes, and what the operation leaves
mod SetCallLaws
