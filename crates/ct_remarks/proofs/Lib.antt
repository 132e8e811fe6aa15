mod Controls
mod Lines
mod Tokens
mod Told
