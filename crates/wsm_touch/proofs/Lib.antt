mod EqualCards
mod Touching
