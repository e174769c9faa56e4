-- the best of the first candidates of a list
mod Best
