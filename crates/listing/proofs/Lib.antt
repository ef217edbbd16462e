mod Books
mod Digits
