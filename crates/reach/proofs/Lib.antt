-- what filled tables answer, and how a call begins
mod OutcomeLaws
mod ReachedLaws
mod CallLaws
