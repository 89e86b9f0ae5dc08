mod Fields
mod Heads
