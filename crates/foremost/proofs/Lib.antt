-- from a pass and the pair's through counts to the operation
mod WorkLaws
