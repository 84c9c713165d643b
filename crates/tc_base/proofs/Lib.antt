mod Front
mod Unique
