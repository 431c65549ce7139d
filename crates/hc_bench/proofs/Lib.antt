mod Absence
mod Live
