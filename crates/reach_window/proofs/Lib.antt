-- windows gathered, records folded in one by one, and the stations' table made at the end
mod WindowLaws
