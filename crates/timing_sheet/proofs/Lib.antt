mod Ends
mod Agreeing
