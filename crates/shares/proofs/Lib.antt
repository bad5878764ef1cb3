-- division with a rest, and doubling
mod DivisionLaws
