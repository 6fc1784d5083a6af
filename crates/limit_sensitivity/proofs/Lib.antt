mod Fitting
mod Matched
mod Places
mod Ranked
mod Saying
