mod Minors
