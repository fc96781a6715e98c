mod Beginnings
mod Found
